mod Digits
mod Writes
