mod TrafficFacts
mod LogFacts
