pub mod MadeNets
pub mod ProgramChannels
pub mod ScriptChannels
pub mod Tested
pub mod WorkedSelection
