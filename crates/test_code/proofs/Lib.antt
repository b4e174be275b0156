mod KnownCodes
