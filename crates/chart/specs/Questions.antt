-- Questions asked in order: the first "no" is the answer.
use Rattle.std.specs.Prelude.{Bool, cond, List, [], ◌∷◌, Ok, Err, Result}

-- each question is its answer, and the refusal that a "no" gives; where every answer is "yes", the result is t
abbrev pub asked : {E T : Type 0} → List (Bool × E) → T → Result T E
asked [] t = Ok t
asked (q ∷ qs) t = cond q.0 (asked qs t) (Err q.1)
