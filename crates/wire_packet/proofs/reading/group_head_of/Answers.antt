use Rattle.std.proofs.Common.{◌∙◌, ℕ}
use Rattle.std.proofs.lemmas.Result.{err_from_is_err_and}
use Rattle.chem_model.specs.declared.event.AtomId.{AtomId}
use Rattle.chem_model.specs.declared.event.RuleId.{RuleId}
use Rattle.wire_packet.specs.Format.{Format, four}
use Rattle.wire_packet.specs.inside.Reading.{one_pair}
use Rattle.wire_packet.proofs.Loop.{fails_behind, fails_then, past}
use Rattle.wire_packet.proofs.reading.group_head_of.Goals as goal

abbrev with_rules : {Z : Type 0} → (ℕ × AtomId × RuleId → Format Z) → ℕ → ℕ × ℕ → ℕ × ℕ → Format Z
with_rules next level chans rules =
    next (level, record { site = chans.0; k = chans.1 }, record { site = rules.0; k = rules.1 })

abbrev after_chans : {Z : Type 0} → (ℕ × AtomId × RuleId → Format Z) → ℕ → ℕ × ℕ → Format Z
after_chans next level chans = one_pair (with_rules next level chans)

abbrev after_level : {Z : Type 0} → (ℕ × AtomId × RuleId → Format Z) → ℕ → Format Z
after_level next level = one_pair (after_chans next level)

pub returns-in_err-level : goal.returns-in_err-level
returns-in_err-level c =
    let p = err_from_is_err_and c.from_residual.result c.from_residual.ensures.1 in
    rw (p.1, p.2) (λ next. fails_then _ _ _ c.in_err-level.ensures)

pub returns-in_err-chans_site : goal.returns-in_err-chans_site
returns-in_err-chans_site c =
    let p = err_from_is_err_and c.from_residual-in_err-chans_site.result
    c.from_residual-in_err-chans_site.ensures.1 in
    rw (p.1, p.2)
    (λ next. fails_behind _ _ _ (past four (after_level next) _ _ _ c.in_ok-level.ensures)
    (c.in_err-chans_site.ensures (after_chans next c.in_ok-level.level)))

pub returns-in_err-rules_site : goal.returns-in_err-rules_site
returns-in_err-rules_site c =
    let p = err_from_is_err_and c.from_residual-in_err-rules_site.result
    c.from_residual-in_err-rules_site.ensures.1 in
    let chans : ℕ × ℕ = (c.in_ok-chans_site.chans_site, c.in_ok-chans_site.chans_k) in
    rw (p.1, p.2)
    (λ next. fails_behind _ _ _ (past four (after_level next) _ _ _ c.in_ok-level.ensures
    ∙ c.in_ok-chans_site.ensures (after_chans next c.in_ok-level.level))
    (c.in_err-rules_site.ensures (with_rules next c.in_ok-level.level chans)))

pub returns : goal.returns
returns c =
    let chans : ℕ × ℕ = (c.in_ok-chans_site.chans_site, c.in_ok-chans_site.chans_k) in
    λ next. past four (after_level next) _ _ _ c.in_ok-level.ensures
    ∙ c.in_ok-chans_site.ensures (after_chans next c.in_ok-level.level)
    ∙ c.in_ok-rules_site.ensures (with_rules next c.in_ok-level.level chans)
