mod Elements
mod Marks
mod Adding
mod Following
mod Solving
mod Rising
