mod AmountFacts
mod BookFacts
mod OutputFacts
mod ReportFilesFacts
mod ReportingFacts
