pub mod CallSites
pub mod CallFaults
pub mod CallForms
pub mod FirstPlaces
pub mod CallSplits
pub mod Inlining
pub mod Bodies
pub mod CallEnds
