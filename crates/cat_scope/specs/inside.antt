-- the parts of an expression evaluated, as proofs take them
pub mod EvalParts
