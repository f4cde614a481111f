mod Digits
mod Filling
