-- The code of a program reads as the program.
use Rattle.std.proofs.Common.{◌≡◌, ℕ, zero, suc, ◌+◌, List, [], ◌∷◌, ◌++◌, length, Some, None, refl}
use Rattle.std.proofs.Common.{sym, subst, arith, append_assoc, length-append}
use Rattle.std.specs.Prelude.{slice_get}
use Rattle.chem_model.specs.declared.program.SiteTerm.{SiteTerm}
use Rattle.chem_model.specs.Process as term
use Rattle.chem_model.specs.Process.{Process, Definitions}
use Rattle.chem_model.specs.Fill.{Naming}
use Rattle.env_store.specs.Layout.{rules_in, new_channels, order, LevelTerm, level_term, levels_of}
use Rattle.env_store.specs.Layout.{levels_of_defs, levels_of_site, levels_of_sites}
use Rattle.env_store.specs.CodeParts.{CodeParts}
use Rattle.env_store.specs.Reading.{ReadsSite, ReadsSites}
use Rattle.guard_compile.specs.declared.write.At.{At}
use Rattle.guard_compile.specs.declared.write.Piece.{Piece}
use Rattle.guard_compile.specs.declared.write.Defined.{Defined}
use Rattle.guard_compile.specs.Written.{join, behind, inside, above, body_piece, block_piece}
use Rattle.guard_compile.specs.Written.{level_of, Wrote, with_body, write, write_defs}
use Rattle.guard_compile.specs.Written.{write_sites}
use Rattle.guard_compile.proofs.From.{after, HasFrom, has_left, has_right, Holds, holds_left}
use Rattle.guard_compile.proofs.From.{holds_right}
use Rattle.guard_compile.proofs.Slotted.{Slotted, DefsSlotted}
use Rattle.guard_compile.proofs.WrittenReads.{LevelReads, after_join, body_after, block_after}
use Rattle.guard_compile.proofs.WrittenReads.{next_is, next_is_defs, guards_long, levels_long}
use Rattle.guard_compile.proofs.WrittenReads.{levels_long_defs, defs_level, term_level, places_read}
use Rattle.guard_compile.proofs.WrittenReads.{body_reads, rules_read, LevelsRead, levels_joined}
use Rattle.guard_compile.proofs.WrittenReads.{levels_read, levels_read_defs}

-- a list has its own members
has_behind : {X : Type 0} (pre xs : List X) → HasFrom (pre ++ xs) (length pre) xs
has_behind pre [] = tt
has_behind {X = X} pre (x ∷ xs) =
    let long : length (pre ++ x ∷ []) ≡ length pre + 1 =
    omega (arith, length-append pre (x ∷ [])) in (
      front pre,
      subst (λ n. HasFrom (pre ++ x ∷ xs) n xs) long
          (subst (λ ys. HasFrom ys (length (pre ++ x ∷ [])) xs) (append_assoc pre (x ∷ []) xs)
          (has_behind (pre ++ x ∷ []) xs)),
    )
  where
    front : (ys : List X) → slice_get (ys ++ x ∷ xs) (length ys) ≡ Some x
    front [] = refl
    front (y ∷ ys) = front ys

pub has_all : {X : Type 0} (xs : List X) → HasFrom xs 0 xs
has_all xs = has_behind [] xs

-- what a site adds
module _ (tops : Naming) (at : At) (ds : Definitions) (p : Process) where
  abbrev pub sat : At
  sat = behind (inside at) (rules_in ds)

  abbrev pub sd : Defined
  sd = write_defs tops sat at.block 0 at.level (new_channels [] ds) [] (new_channels [] ds) ds

  abbrev pub sw : Wrote
  sw = write tops sd.piece.next [] p

  abbrev pub sfront : Piece
  sfront = block_piece at (rules_in ds) (level_of tops at at.block None [] [] ds None)
      sd.guards (record { levels = at.level ∷ sd.places; names = length (order ds) })

  abbrev spiece : Piece
  spiece = join sfront (join sd.piece (with_body tops sw))

  pub front_next : sat ≡ after at sfront
  front_next = block_after at (rules_in ds) (level_of tops at at.block None [] [] ds None)
      sd.guards (record { levels = at.level ∷ sd.places; names = length (order ds) })
      (guards_long tops ds sat at.block 0 at.level (new_channels [] ds) [] (new_channels [] ds))

  pub defs_next : sd.piece.next ≡ after sat sd.piece
  defs_next =
      next_is_defs tops ds sat at.block 0 at.level (new_channels [] ds) [] (new_channels [] ds)

  pub site_next : above sw.piece.next ≡ after at spiece
  site_next = after_join at sfront (join sd.piece (with_body tops sw)) front_next
      (after_join sat sd.piece (with_body tops sw) defs_next
      (after_join sd.piece.next sw.piece (body_piece sw.piece.next sw.instrs)
      (next_is tops p sd.piece.next []) (body_after sw.piece.next sw.instrs)))

-- each site's terms have their slots
abbrev pub SitesSlotted : Naming → List SiteTerm → Type 0
SitesSlotted tops [] = Unit {0}
SitesSlotted tops (t ∷ ts) = (DefsSlotted tops [] (new_channels [] (term.definitions t.defs))
    (new_channels [] (term.definitions t.defs)) (term.definitions t.defs) × Slotted tops [] t.body)
    × SitesSlotted tops ts

module _ (tops : Naming) (c : CodeParts) (table : List LevelTerm) where
  site_read : (at : At) (ds : Definitions) (p : Process)
      → DefsSlotted tops [] (new_channels [] ds) (new_channels [] ds) ds × Slotted tops [] p
      → Holds c at (spiece tops at ds p)
      → HasFrom table at.level
      (level_term [] [] ds None ∷ (levels_of_defs [] (new_channels [] ds) ds ++ levels_of [] p))
      → ReadsSite c table tops ds p
      (record { block = at.block; body = (sw tops at ds p).piece.next.body })
      × LevelsRead tops c table at.level
      (level_term [] [] ds None ∷ (levels_of_defs [] (new_channels [] ds) ds ++ levels_of [] p))
  site_read at ds p o h t =
      let bs = new_channels [] ds in
      let d = sd tops at ds p in
      let w = sw tops at ds p in
      let at1 = sat tops at ds p in
      let head = holds_left c at (sfront tops at ds p) (join d.piece (with_body tops w)) h in
      let back = holds_right c at (sfront tops at ds p) (join d.piece (with_body tops w))
      (front_next tops at ds p) h in
      let defs = holds_left c at1 d.piece (with_body tops w) back in
      let body = holds_right c at1 d.piece (with_body tops w) (defs_next tops at ds p) back in
      let front = levels_of_defs [] bs ds in
      let source = has_left table (at.level + 1) front (levels_of [] p) t.1 in
      let long : (at.level + 1) + length front ≡ d.piece.next.level =
      defs_level tops c table ds at1 at.block 0 at.level bs [] bs in
      let rest = subst (λ k. HasFrom table k (levels_of [] p)) long
      (has_right table (at.level + 1) front (levels_of [] p) t.1) in
      let own = level_term [] [] ds None in (
        record {
          block = record { levels = at.level ∷ d.places; names = length (order ds) };
          is_there = head.blocks.0;
          reads = record {
            names = refl;
            own = at.level;
            places = d.places;
            levels_are = refl;
            own_is = t.0;
            places_are = places_read tops c table ds at1 at.block 0 at.level bs [] bs o.0 source;
          };
          body = body_reads tops c table p d.piece.next [] o.1 body rest;
        },
        (
          record {
            level = level_of tops at at.block None [] [] ds None;
            is_there = head.levels.0;
            counts = refl;
            depth = refl;
            guards = refl;
            rules = rules_read tops c table own ds at1 at.block 0 at.level bs at.guard o.0 defs
                source head.guards;
            process = refl;
          },
          levels_joined tops c table (at.level + 1) front (levels_of [] p)
              (levels_read_defs tops c table ds at1 at.block 0 at.level bs [] bs o.0 defs source)
              (subst (λ k. LevelsRead tops c table k (levels_of [] p)) (sym long)
              (levels_read tops c table p d.piece.next [] o.1
              (holds_left c d.piece.next w.piece (body_piece w.piece.next w.instrs) body) rest)),
        ),
      )

  site_level : (at : At) (ds : Definitions) (p : Process)
      → at.level
      + length
      (level_term [] [] ds None ∷ (levels_of_defs [] (new_channels [] ds) ds ++ levels_of [] p))
      ≡ (above (sw tops at ds p).piece.next).level
  site_level at ds p =
      let bs = new_channels [] ds in
      let d = sd tops at ds p in
      let one : (at.level + 1) + length (levels_of_defs [] bs ds) ≡ d.piece.next.level =
      defs_level tops c table ds (sat tops at ds p) at.block 0 at.level bs [] bs in
      let two : d.piece.next.level + length (levels_of [] p) ≡ (sw tops at ds p).piece.next.level =
      term_level tops c table p d.piece.next [] in
      omega (arith, one, two, length-append (levels_of_defs [] bs ds) (levels_of [] p))

  pub sites_read : (ts : List SiteTerm) (at : At) (i : ℕ) → SitesSlotted tops ts
      → Holds c at (write_sites tops at ts).piece → HasFrom table at.level (levels_of_sites ts)
      → HasFrom c.sites i (write_sites tops at ts).sites
      → ReadsSites c table tops i ts × LevelsRead tops c table at.level (levels_of_sites ts)
  sites_read [] at i o h t g = (tt, tt)
  sites_read (u ∷ us) at i o h t g =
      let ds = term.definitions u.defs in
      let w = sw tops at ds u.body in
      let v = write_sites tops (above w.piece.next) us in
      let here = site_read at ds u.body o.0 (holds_left c at (spiece tops at ds u.body) v.piece h)
      (has_left table at.level (levels_of_site u) (levels_of_sites us) t) in
      let long = site_level at ds u.body in
      let rest = sites_read us (above w.piece.next) (i + 1)
      o.1 (holds_right c at (spiece tops at ds u.body) v.piece (site_next tops at ds u.body) h)
      (subst (λ k. HasFrom table k (levels_of_sites us)) long
      (has_right table at.level (levels_of_site u) (levels_of_sites us) t)) g.1 in (
        ((record { block = at.block; body = w.piece.next.body }, g.0, here.0), rest.0),
        levels_joined tops c table at.level (levels_of_site u) (levels_of_sites us)
            here.1 (subst (λ k. LevelsRead tops c table k (levels_of_sites us)) (sym long) rest.1),
      )

  -- a level, by its number
  pub level_found : (n : ℕ) (ts : List LevelTerm) → LevelsRead tops c table n ts
      → (i : ℕ) (t : LevelTerm) → slice_get ts i ≡ Some t → LevelReads tops c table (n + i) t
  level_found n [] h i t e = cc
  level_found n (u ∷ us) h zero t e =
      let same : u ≡ t = cc in
      let at : n ≡ n + 0 = omega arith in
      subst (λ k. LevelReads tops c table k t) at (subst (LevelReads tops c table n) same h.0)
  level_found n (u ∷ us) h (suc i) t e =
      let at : (n + 1) + i ≡ n + suc i = omega arith in
      subst (λ k. LevelReads tops c table k t) at (level_found (n + 1) us h.1 i t e)

pub sites_levels : (tops : Naming) (ts : List SiteTerm) (at : At)
    → length (write_sites tops at ts).piece.levels ≡ length (levels_of_sites ts)
sites_levels tops [] at = refl
sites_levels tops (u ∷ us) at =
    let ds = term.definitions u.defs in
    let bs = new_channels [] ds in
    let d = sd tops at ds u.body in
    let w = sw tops at ds u.body in
    let v = write_sites tops (above w.piece.next) us in
    omega (
      arith,
      levels_long_defs tops ds (sat tops at ds u.body) at.block 0 at.level bs [] bs,
      levels_long tops u.body d.piece.next [],
      sites_levels tops us (above w.piece.next),
      length-append (d.piece.levels ++ (w.piece.levels ++ [])) v.piece.levels,
      length-append d.piece.levels (w.piece.levels ++ []),
      length-append w.piece.levels [],
      length-append (levels_of_defs [] bs ds) (levels_of [] u.body),
      length-append (levels_of_defs [] bs ds ++ levels_of [] u.body) (levels_of_sites us),
    )

pub sites_long : (tops : Naming) (ts : List SiteTerm) (at : At)
    → length (write_sites tops at ts).sites ≡ length ts
sites_long tops [] at = refl
sites_long tops (u ∷ us) at = omega
    (arith, sites_long tops us (above (sw tops at (term.definitions u.defs) u.body).piece.next))
