pub mod Elaborate
pub mod LentMemory
pub mod Statements
pub mod ElaborateEntry
pub mod PremiseTests
pub mod Memory
-- the top
pub mod Demands
