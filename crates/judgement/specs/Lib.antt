-- The judgement of a lent chain in one pass over its records.
pub mod Judging
