mod Targets
mod Sent
mod Passed
mod Denied
