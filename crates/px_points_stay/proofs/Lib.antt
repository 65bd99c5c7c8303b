mod Lists
mod Heaps
mod Acts
mod Words
mod Stay
mod First
