pub mod Camera
