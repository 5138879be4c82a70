-- The values of a point's stress, as the definition has them.
mod StressValues
