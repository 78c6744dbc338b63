mod Coming
mod Outcomes
mod Sending
