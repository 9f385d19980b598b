-- A checked rule by the record that was handed in.
use Rattle.std.specs.Prelude.{Ok, Err, Result}
use Rattle.rules.specs.declared.view.RuleRecord.{RuleRecord}
use Rattle.rules.specs.declared.rule.Rule.{Rule}
use Rattle.rules.specs.declared.refusal.RuleRefusal.{RuleRefusal}

abbrev pub as_handed_in : Result Rule RuleRefusal → Result RuleRecord RuleRefusal
as_handed_in (Ok r) = Ok r.given
as_handed_in (Err e) = Err e
