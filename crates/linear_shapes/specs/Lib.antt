pub mod LinearShapes
