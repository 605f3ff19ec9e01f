-- The laws of looking for grants and of what they let see.
mod Among
mod Next
mod Seen
