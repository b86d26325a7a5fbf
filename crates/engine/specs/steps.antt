-- What functions of the engine promise each other; a planner says by Bands what its prices are.
pub mod Bands
pub mod OneMore
pub mod MarkLowered
