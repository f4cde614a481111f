mod Told
mod Tests
mod Sought
mod Entries
mod Looked
