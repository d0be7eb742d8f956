-- The promises over whole runs, over whole programs, and over a simulator's calls. Read Promises, Programs, AnyInput, Simulator, JudgeCalls and
-- Recounted first; Runs and Machines say what their words mean, and Wrong what they shut out.
pub mod Machines
pub mod Runs
pub mod Promises
pub mod Programs
pub mod AnyInput
pub mod Simulator
pub mod JudgeCalls
pub mod Recounted
pub mod Waves
pub mod Wrong
