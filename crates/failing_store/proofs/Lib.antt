mod FailingFacts
