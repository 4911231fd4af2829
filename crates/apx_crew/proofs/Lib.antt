mod Claims
mod Ended
mod Sending
