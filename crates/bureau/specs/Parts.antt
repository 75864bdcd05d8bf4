-- The parts of a bureau.
pub record Parts (Store Judge : Type 0) : Type 0 where
  pub store : Store
  pub judge : Judge
