-- One slot's record in numbers, for C; every other entry point promises what its number form promises.
pub mod Slot
