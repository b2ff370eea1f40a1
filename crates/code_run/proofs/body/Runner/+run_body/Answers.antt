use Rattle.std.proofs.Common.{◌≡◌, ◌+◌, List, [], ◌∷◌, length, get_or, drop, Some, refl, sym, ap}
use Rattle.std.proofs.Common.{◌∙◌, subst, arith, eqb-true, ℕ, OnOk}
use Rattle.env_store.specs.declared.code.Instr.{Instr}
use Rattle.chem_model.specs.Each.{Each}
use Rattle.wire_packet.specs.Operations.{IsPlain}
use Rattle.env_store.specs.declared.code.Instr.TheVariants.{Enter}
use Rattle.env_store.specs.CodeFacts.{IsBodyAt, IsLevelAt, AreBelow, Falls}
use Rattle.env_store.specs.Running.{code_made, loc_at, numbered_levels}
use Rattle.code_run.specs.declared.made.Run.{Run}
use Rattle.code_run.specs.inside.Steps.{Adds, IsThere, FitsFirst, levels_laid}
use Rattle.code_run.proofs.Runs.{drop_at, drop_number, drop_past}
use Rattle.code_run.proofs.Blocks.{block_there, block_below, wide_levels, enter_made, enter_env}
use Rattle.code_run.proofs.Blocks.{places_at, places_there, places_below, block_made, split}
use Rattle.code_run.proofs.Plain.{on_count, wide_plain}
use Rattle.code_run.proofs.Loops.{few_names, still_plain, run_begins, run_steps, fits_first}
use Rattle.code_run.proofs.Loops.{falls_now, run_made, env_left, no_places, laying_begins}
use Rattle.code_run.proofs.Loops.{laying_steps, laying_made, place_body, body_some, body_none}
use Rattle.code_run.proofs.body.Runner.+run_body.Goals as goal
use Rattle.code_run.proofs.body.Runner.+run_body.Goals.{lay_places-in-Some+in_ok-run_body}
use Rattle.code_run.proofs.body.Runner.+run_body.Goals.{lay_places-in_default}

-- ---- a body

pub run_body-loop-instr-init : goal.run_body-loop-instr-init
run_body-loop-instr-init t c =
    run_begins c.args.self.now.code.now c.args.self.now.site c.body-instrs.ensures.kept
    c.args.self.now.loc c.args.body c.args.env.now c.args.made.now
    c.as_slice-instr-items.result.now c.requires.body c.requires.env
    (c.body-instrs.ensures.there
    ∙ ap (λ (is : List Instr). Some is) (sym c.as_slice-instr-items.ensures.members))

pub run_body-step-requires : goal.run_body-step-requires
run_body-step-requires t c =
    let items = c.as_slice-instr-items.result.now in
    let i = c.loop-instr.instr-index in
    let split = drop_at items i c.instr-item.result c.loop-instr-test.true c.instr-item.is in (
      omega arith,
      (
        still_plain c.args.self.now.code.now c.args.self.now.site c.args.self.now.loc c.args.body
            c.args.env.now
            c.args.made.now c.loop-instr.made c.loop-instr.env items (drop i items)
            c.loop-instr.invariant,
        (
          fits_first c.args.self.now.code.now c.args.self.now.site c.args.self.now.loc c.args.body
              c.args.env.now
              c.args.made.now c.loop-instr.made c.loop-instr.env items (drop i items)
              (drop (i + 1) items) c.instr-item.result split c.loop-instr.invariant,
          falls_now c.args.self.now.code.now c.args.self.now.site c.args.self.now.loc c.args.body
              c.args.env.now
              c.args.made.now c.loop-instr.made c.loop-instr.env items (drop i items)
              (drop (i + 1) items) c.instr-item.result split c.loop-instr.invariant,
        ),
      ),
    )

pub run_body-loop-instr-preserved : goal.run_body-loop-instr-preserved
run_body-loop-instr-preserved t c =
    let items = c.as_slice-instr-items.result.now in
    let i = c.loop-instr.instr-index in
    let split = drop_at items i c.instr-item.result c.loop-instr-test.true c.instr-item.is in
    run_steps c.args.self.now.code.now c.args.self.now.site c.body-instrs.ensures.kept
    c.args.self.now.loc c.args.body
    c.args.env.now c.args.made.now c.loop-instr.made c.step.new.made c.loop-instr.env c.step.new.env
    items (drop i items) (drop (i + 1) items) c.instr-item.result
    split c.loop-instr.invariant c.in_ok-step.ensures.made c.in_ok-step.ensures.env

pub run_body-returns-clause-made : goal.run_body-returns-clause-made
run_body-returns-clause-made t c =
    let items = c.as_slice-instr-items.result.now in
    let there = c.body-instrs.ensures.there
    ∙ ap (λ (is : List Instr). Some is) (sym c.as_slice-instr-items.ensures.members) in
    run_made c.args.self.now.code.now c.args.self.now.site c.body-instrs.ensures.kept
    c.args.self.now.loc c.args.body
    c.args.env.now c.args.made.now c.loop-instr.made c.loop-instr.env items
    (drop c.loop-instr.instr-index items)
    there (drop_past items c.loop-instr.instr-index c.loop-instr-test.false) c.loop-instr.invariant

pub run_body-returns-clause-env : goal.run_body-returns-clause-env
run_body-returns-clause-env t c =
    let items = c.as_slice-instr-items.result.now in
    env_left c.args.self.now.code.now c.args.self.now.site c.args.self.now.loc c.args.body
    c.args.env.now c.args.made.now c.loop-instr.made c.loop-instr.env items
    (drop c.loop-instr.instr-index items)
    (drop_past items c.loop-instr.instr-index c.loop-instr-test.false) c.loop-instr.invariant

pub step-post_message-requires : goal.step-post_message-requires
step-post_message-requires t c =
    let names = c.in_ok-args-in-Send.ensures.names in
    record {
      few = few_names c.args.self.now.code.now (length c.args.env.now)
          c.args.instr.now c.in-Send.on c.in-Send.args c.args.env.now c.in_ok-args-in-Send.args
          c.in-Send.is c.requires.fits names;
      plain = c.in_ok-args-in-Send.ensures.plain;
      count = on_count c.args.self.now.code.now (length c.args.env.now)
          c.args.instr.now c.in-Send.on c.in-Send.args c.args.env.now c.in_ok-args-in-Send.args
          c.lookup-on.result c.in-Send.is c.requires.fits c.requires.env names c.lookup-on.ensures;
    }

-- ---- a block that is entered

pub step-enter-requires : goal.step-enter-requires
step-enter-requires t c =
    let is : c.args.instr.now ≡ Enter c.in-Enter.block = c.in-Enter.is in (
      omega arith,
      (
        c.requires.env,
        (
          subst (λ i. FitsFirst c.args.self.now.code.now (length c.args.env.now) i) is
              c.requires.fits,
          subst (λ i. Falls c.args.self.now.code.now c.args.below (i ∷ [])) is c.requires.falls,
        ),
      ),
    )

pub enter-name_block-requires : goal.enter-name_block-requires
enter-name_block-requires t c =
    subst (Each (IsThere c.args.self.now.code.now)) (sym c.as_slice-levels.ensures.members)
    (block_there c.args.self.now.code.now (length c.args.env.now)
    c.args.block c.block-block.result.now c.requires.fits c.block-block.ensures.there)

pub enter-lay_block-requires : goal.enter-lay_block-requires
enter-lay_block-requires t c =
    let block = c.block-block.result.now in (
      omega arith,
      (
        wide_plain c.args.self.now.site c.args.self.now.loc c.args.made.now.next
            (numbered_levels c.args.self.now.code.now.levels c.as_slice-levels.result.now)
            c.args.env.now c.name_block.new.names c.requires.env c.in_ok-name_block.ensures,
        (
          wide_levels c.args.self.now.code.now (length c.args.env.now) c.args.block block
              c.requires.fits c.block-block.ensures.there c.block-block.ensures.kept
              c.args.self.now.site c.args.self.now.loc c.args.made.now.next c.args.env.now
              c.name_block.new.names
              c.as_slice-levels.result.now
              c.as_slice-levels.ensures.members c.in_ok-name_block.ensures refl,
          subst (λ ns. AreBelow c.args.below (numbered_levels c.args.self.now.code.now.levels ns))
              (sym c.as_slice-levels.ensures.members)
              (block_below c.args.self.now.code.now (length c.args.env.now) c.args.block block
              c.requires.fits c.block-block.ensures.there c.args.below c.requires.falls),
        ),
      ),
    )

pub enter-returns-clause-made : goal.enter-returns-clause-made
enter-returns-clause-made t c =
    enter_made c.args.self.now.code.now (length c.args.env.now)
    c.args.block c.block-block.result.now c.requires.fits c.block-block.ensures.there
    c.block-block.ensures.kept c.args.self.now.site c.args.self.now.loc c.args.made.now.next
    c.args.env.now
    c.name_block.new.names c.as_slice-levels.result.now
    c.as_slice-levels.ensures.members c.in_ok-name_block.ensures
    (code_made c.args.self.now.code.now c.args.self.now.site) c.lay_block.result c.in_ok-next.next
    c.args.made.now
    c.lay_block.new.made c.in_ok-next.ensures c.lay_block.ensures

pub enter-returns-clause-env : goal.enter-returns-clause-env
enter-returns-clause-env t c =
    enter_env c.args.self.now.code.now (length c.args.env.now)
    c.args.block c.block-block.result.now c.requires.fits c.block-block.ensures.there
    c.block-block.ensures.kept c.args.self.now.site c.args.self.now.loc c.args.made.now.next
    c.args.env.now
    c.name_block.new.names c.as_slice-levels.result.now
    c.as_slice-levels.ensures.members c.in_ok-name_block.ensures
    (code_made c.args.self.now.code.now c.args.self.now.site)
    c.lay_block.result

-- ---- a block that is laid

pub lay_block-bear_places-requires : goal.lay_block-bear_places-requires
lay_block-bear_places-requires t c = places_there c.args.self.now.code.now (length c.args.env.now)
    c.args.below c.args.levels.now c.in-len1-up.len_at_least c.requires.levels

pub lay_block-lay_group-requires : goal.lay_block-lay_group-requires
lay_block-lay_group-requires t c =
    subst (Each IsPlain) (sym (c.in_ok-shared.ensures ∙ c.in_ok-names.ensures)) c.requires.env

pub lay_block-lay_places-requires : goal.lay_block-lay_places-requires
lay_block-lay_places-requires t c =
    let same : c.args.env.now ≡ c.in_ok-shared.shared =
    sym (c.in_ok-shared.ensures ∙ c.in_ok-names.ensures) in
    let levels = subst
    (λ ns. Each (IsLevelAt c.args.self.now.code.now (length ns)) c.args.levels.now) same
    c.requires.levels in (
      omega arith,
      (
        subst (Each IsPlain) same c.requires.env,
        (
          places_at c.args.self.now.code.now (length c.in_ok-shared.shared)
              c.args.below c.args.levels.now c.in-len1-up.len_at_least levels,
          places_below c.args.self.now.code.now (length c.args.env.now) c.args.below
              c.args.levels.now c.in-len1-up.len_at_least c.requires.levels c.requires.falls,
        ),
      ),
    )

pub lay_block-returns : goal.lay_block-returns
lay_block-returns t c =
    let code = c.args.self.now.code.now in
    let site = c.args.self.now.site in
    let M = code_made code site in
    let m = c.args.made.now in
    let levels = c.args.levels.now in
    subst (λ ns. OnOk c.lay_places.result (Adds m c.lay_places.new.made (levels_laid M site ns
    c.args.self.now.loc c.args.from m.next (numbered_levels code.levels levels))))
    (c.in_ok-shared.ensures ∙ c.in_ok-names.ensures)
    (block_made code site c.args.self.now.loc c.args.from M c.in_ok-shared.shared levels _ _
    c.level-level.result.now c.in_ok-first.first m c.bear_places.new.births c.lay_group.new.made
    c.lay_places.new.made c.lay_places.result (split levels 0 c.in-len1-up.len_at_least)
    c.level-level.ensures.there
    (c.in_ok-first.ensures ∙ ap (λ (n : ℕ). c.args.from + n) c.len.ensures.count)
    c.in_ok-bear_places.ensures c.in_ok-lay_group.ensures c.lay_places.ensures)

-- ---- places

pub lay_places-loop-place-init : goal.lay_places-loop-place-init
lay_places-loop-place-init t c = (
  laying_begins c.args.self.now.code.now c.args.self.now.site c.args.below c.args.env.now
      c.args.made.now c.args.from c.args.places.now c.requires.levels c.requires.falls,
  c.in_ok-own.ensures ∙ c.names.ensures,
)

pub lay_places-run_body-requires : goal.lay_places-run_body-requires
lay_places-run_body-requires t c =
    let places = c.args.places.now in
    let i = c.loop-place.place-index in
    let n = get_or places i 0 in
    let at = c.level-level.ensures in
    let body = place_body c.args.self.now.code.now c.args.self.now.site c.args.below c.args.env.now
    c.args.made.now
    c.loop-place.made c.args.from c.loop-place.k places (drop i places)
    (drop (i + 1) places) n (drop_number places i c.loop-place-test.true) c.loop-place.invariant.0
    c.level-level.result.now at.there (at.kept.levels n c.level-level.result.now at.there)
    c.in-Some.body c.in-Some.is in
    let same = sym c.loop-place.invariant.1 in (
      omega (arith, body.1),
      (
        subst (λ ns. IsBodyAt c.args.self.now.code.now (length ns) c.in-Some.body) same body.0,
        subst (Each IsPlain) same c.requires.env,
      ),
    )

pub lay_places-loop-place-preserved : goal.lay_places-loop-place-preserved
lay_places-loop-place-preserved t c =
    let places = c.args.places.now in
    let i = c.loop-place.place-index in
    let n = get_or places i 0 in
    let q = loc_at c.args.self.now.site c.loop-place.k in
    let v = c.level-level.result.now in
    let goes = λ (made : Run). laying_steps c.args.self.now.code.now c.args.self.now.site
    c.args.below c.args.env.now c.args.made.now c.loop-place.made c.args.from c.loop-place.k
    places (drop i places) (drop (i + 1) places) n
    (drop_number places i c.loop-place-test.true) c.loop-place.invariant.0 v
    c.level-level.ensures.there c.in_ok-sum.field-0 c.lay_group.new.made made c.in_ok-k.k
    c.in_ok-sum.ensures c.in_ok-lay_group.ensures in
    elim c.match-level.branch [
      | lay_places-in-Some+in_ok-run_body w ↦ (
        goes c.match-level.made
            (body_some c.args.self.now.code.now c.args.self.now.site v.body w.in-Some.body
            c.lay_group.new.made c.match-level.made w.run_body.new.made c.args.env.now q
            w.in-Some.is w.made-is (subst (λ ns. Adds c.lay_group.new.made w.run_body.new.made
            (code_made c.args.self.now.code.now c.args.self.now.site w.in-Some.body ns q
            c.lay_group.new.made.next)) c.loop-place.invariant.1 w.in_ok-run_body.ensures.made))
            c.in_ok-k.ensures,
        w.own-is ∙ w.in_ok-run_body.ensures.env ∙ c.loop-place.invariant.1,
      )
      | lay_places-in_default w ↦ (
        goes c.match-level.made
            (body_none c.args.self.now.code.now c.args.self.now.site v.body c.lay_group.new.made
            c.match-level.made c.args.env.now q w.in_default.is w.made-is)
            c.in_ok-k.ensures,
        w.own-is ∙ c.loop-place.invariant.1,
      )
    ]

pub lay_places-returns-then-is_empty : goal.lay_places-returns-then-is_empty
lay_places-returns-then-is_empty t c =
    no_places c.args.self.now.code.now c.args.self.now.site c.args.env.now c.args.from
    c.args.made.now c.args.places.now (eqb-true (length c.args.places.now) 0
    (sym c.is_empty.ensures ∙ c.if-is_empty.true))

pub lay_places-returns : goal.lay_places-returns
lay_places-returns t c =
    let places = c.args.places.now in
    laying_made c.args.self.now.code.now c.args.self.now.site c.args.below c.args.env.now
    c.args.made.now
    c.loop-place.made c.args.from c.loop-place.k places
    (drop c.loop-place.place-index places)
    (drop_past places c.loop-place.place-index c.loop-place-test.false) c.loop-place.invariant.0
