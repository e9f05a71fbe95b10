-- results, and what is refused
pub mod Limited
pub mod Unlimited
-- numbers, keys and maps, whatever they stand for
pub mod IndexMaps
pub mod Walks
-- linear combinations: what terms and sums mean
pub mod NumberSigns
-- shapes of terms, and what literals say
pub mod Shapes
pub mod Forms
pub mod WrittenNumbers
