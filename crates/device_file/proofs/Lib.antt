mod Cameras
mod Files
mod Finishing
mod HeadingLemmas
mod Indexes
mod Refused
mod Sources
