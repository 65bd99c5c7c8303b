mod Bytes
mod Sums
mod Trees
