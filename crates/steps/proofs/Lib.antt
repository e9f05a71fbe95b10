-- what a step's rule makes of it, and what the verdict says
pub mod CheckedSteps
pub mod StepVerdicts
