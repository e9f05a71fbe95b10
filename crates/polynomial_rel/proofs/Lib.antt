pub mod ScaledSides
pub mod ScaledRelations
