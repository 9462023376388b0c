mod Images
mod Reading
mod Moments
mod Holders
mod Writing
