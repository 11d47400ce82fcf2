mod Meeting
mod Statuses
