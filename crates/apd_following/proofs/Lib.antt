mod Tying
mod Backward
mod Keeping
mod Known
