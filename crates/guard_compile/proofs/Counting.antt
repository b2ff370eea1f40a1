-- The loops that count: what is counted, and what is left to count, are the whole.
use Rattle.std.proofs.Common.{◌≡◌, ◌+◌, List, [], ◌∷◌, sym, ap, ◌∙◌, arith}
use Rattle.chem_model.specs.Process.{Process, processes, Definition, definitions}
use Rattle.guard_compile.specs.declared.count.Counts.{Counts}
use Rattle.guard_compile.specs.inside.Counted.{both_poured, poured_in, poured_in_all, poured_in_def}
use Rattle.guard_compile.specs.inside.Counted.{poured_in_defs}

both_joined : (a b c : Counts) → both_poured (both_poured a b) c ≡ both_poured a (both_poured b c)
both_joined a b c =
    let births : a.births + b.births + c.births ≡ a.births + (b.births + c.births) = omega arith in
    let sends : a.sends + b.sends + c.sends ≡ a.sends + (b.sends + c.sends) = omega arith in
    λ i. record { births = births i; sends = sends i }

both_none : (a : Counts) → both_poured a (record { births = 0; sends = 0 }) ≡ a
both_none a =
    let births : a.births + 0 ≡ a.births = omega arith in
    let sends : a.sends + 0 ≡ a.sends = omega arith in
    λ i. record { births = births i; sends = sends i }

more_counted : (now more next rest all here : Counts)
    → both_poured now (both_poured here rest) ≡ all → more ≡ here → next ≡ both_poured now more
    → both_poured next rest ≡ all
more_counted now more next rest all here h m n =
    ap (λ x. both_poured x rest) (n ∙ ap (both_poured now) m) ∙ both_joined now here rest ∙ h

pub all_more : (now more next : Counts) (x : Process) (ps qs : List Process) (all : Counts)
    → ps ≡ x ∷ qs → both_poured now (poured_in_all (processes ps)) ≡ all → more ≡ poured_in x
    → next ≡ both_poured now more
    → both_poured next (poured_in_all (processes qs)) ≡ all
all_more now more next x ps qs all split h m n =
    more_counted now more next (poured_in_all (processes qs)) all (poured_in x)
    (ap (λ rs. both_poured now (poured_in_all (processes rs))) (sym split) ∙ h) m n

pub all_ended : (now : Counts) (ps : List Process) (all : Counts) → ps ≡ []
    → both_poured now (poured_in_all (processes ps)) ≡ all → now ≡ all
all_ended now ps all done h =
    sym (both_none now) ∙ ap (λ rs. both_poured now (poured_in_all (processes rs))) (sym done) ∙ h

pub defs_more : (now more next : Counts) (x : Definition) (ds es : List Definition) (all : Counts)
    → ds ≡ x ∷ es → both_poured now (poured_in_defs (definitions ds)) ≡ all → more ≡ poured_in_def x
    → next ≡ both_poured now more
    → both_poured next (poured_in_defs (definitions es)) ≡ all
defs_more now more next x ds es all split h m n =
    more_counted now more next (poured_in_defs (definitions es)) all (poured_in_def x)
    (ap (λ rs. both_poured now (poured_in_defs (definitions rs))) (sym split) ∙ h) m n

pub defs_ended : (now : Counts) (ds : List Definition) (all : Counts) → ds ≡ []
    → both_poured now (poured_in_defs (definitions ds)) ≡ all → now ≡ all
defs_ended now ds all done h = sym (both_none now)
    ∙ ap (λ rs. both_poured now (poured_in_defs (definitions rs))) (sym done) ∙ h
