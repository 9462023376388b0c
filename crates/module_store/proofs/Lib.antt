mod Advancing
mod Choices
mod InstallMoments
mod Keeping
mod Owners
mod Room
mod Streams
