mod Histories
mod Beginning
mod Stories
mod Lines
mod Requests
mod Folders
mod Calls
mod Example
