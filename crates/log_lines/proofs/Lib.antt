mod Examples
mod WordFacts
mod StampFacts
