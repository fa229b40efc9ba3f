mod Examples
mod Port
mod PortKeeps
mod PortPlaces
mod PortTable
mod WrittenPorts
mod WrongPorts
