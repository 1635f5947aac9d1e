-- The rules of either set were asked, and held.
use Rattle.std.proofs.Common.{sym, ◌∙◌}
use Rattle.keys.specs.Checked.{keys_checked}
use Rattle.reach.proofs.Answers.{asked_holds}
use Rattle.reach.proofs.sets.TwoSets.new.Goals as goal

pub invariant_of-result-2 : goal.invariant_of-result-2
invariant_of-result-2 c = record { ready = keys_checked _ _ _ _ (sym c.keep_rules.ensures ∙ asked_holds _ _ (sym c.ask-3.ensures ∙ c.in_ok-ask-3.was)) }

pub invariant_of-result-4 : goal.invariant_of-result-4
invariant_of-result-4 c = record { kept = keys_checked _ _ _ _ (sym c.keep_rules-2.ensures ∙ asked_holds _ _ (sym c.ask-4.ensures ∙ c.in_ok-ask-4.was)) }
