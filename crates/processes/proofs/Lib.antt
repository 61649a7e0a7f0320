mod Lists
mod Keeping
mod Stepping
mod Standing
pub mod Turning
mod Replacing
mod Going
mod Renewing
mod Deeds
mod Resting
mod Running
mod Calling
mod Dying
