-- What holds of questions asked in parts.
mod Parts
