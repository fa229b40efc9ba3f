mod Shorter
mod Declared
