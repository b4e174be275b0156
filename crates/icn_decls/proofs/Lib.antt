mod FirstOfTwo
mod RepeatedNames
