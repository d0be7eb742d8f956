-- The laws of the converting programs.
pub mod Positions
pub mod DumpNear
pub mod DumpLines
pub mod DumpCounted
pub mod DumpHeads
pub mod DumpPromises
pub mod UndumpFacts
pub mod UndumpSteps
pub mod UndumpHeads
pub mod UndumpLines
pub mod UndumpPromises
