-- What a walk over the elements finds of question 8.
mod NodeNumbers
