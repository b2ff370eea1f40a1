-- The loops that write: what is there, and what is left to write, are the whole.
use Rattle.std.proofs.Common.{◌≡◌, ℕ, ◌+◌, ◌<◌, ◌≤◌, zero, suc, List, [], ◌∷◌, ◌++◌, length, get_or}
use Rattle.std.proofs.Common.{drop, drop-cons, add-one, refl, sym, ap, ◌∙◌, subst, append_assoc}
use Rattle.std.proofs.Common.{arith, length-append}
use Rattle.chem_model.specs.declared.program.SiteTerm.{SiteTerm}
use Rattle.chem_model.specs.Process.{Process, processes, Par, Definition, definitions}
use Rattle.chem_model.specs.Fill.{Naming}
use Rattle.chem_laws.proofs.Lists.{append_nil}
use Rattle.env_store.specs.declared.code.Instr.{Instr}
use Rattle.env_store.specs.declared.code.SiteCode.{SiteCode}
use Rattle.env_store.specs.Layout.{place_in, places_order}
use Rattle.guard_compile.specs.declared.write.At.{At}
use Rattle.guard_compile.specs.declared.write.Piece.{Piece}
use Rattle.guard_compile.specs.declared.write.Defined.{Defined}
use Rattle.guard_compile.specs.declared.write.Writer.{Writer}
use Rattle.guard_compile.specs.declared.write.Within.{Within}
use Rattle.guard_compile.specs.Written.{with_bit, with_bits, Wrote, WroteSites, join, no_piece}
use Rattle.guard_compile.specs.Written.{zero_at}
use Rattle.guard_compile.specs.Written.{write, write_all, write_defs, site_piece}
use Rattle.guard_compile.specs.Written.{site_code, write_sites}
use Rattle.guard_compile.specs.inside.Appends.{Appends, Writes, Defines, defs_wrote, def_wrote}

-- the rest of a list begins with the member at its place
pub drop_at : {X : Type 0} (xs : List X) (i : ℕ) (x : X) → i < length xs → x ≡ get_or xs i x
    → drop i xs ≡ x ∷ drop (i + 1) xs
drop_at xs i x h e = rw (add-one) (drop-cons xs i x h ∙ ap (λ y. y ∷ drop (suc i) xs) (sym e))

pub drop_number : (xs : List ℕ) (i : ℕ) → i < length xs
    → drop i xs ≡ get_or xs i 0 ∷ drop (i + 1) xs
drop_number xs i h = rw (add-one) (drop-cons xs i 0 h)

pub drop_past : {X : Type 0} (xs : List X) (i : ℕ) → length xs ≤ i → drop i xs ≡ []
drop_past [] zero h = refl
drop_past [] (suc i) h = refl
drop_past (x ∷ xs) zero h = absurd (omega arith)
drop_past (x ∷ xs) (suc i) h = drop_past xs i (omega arith)

-- what is there and what is left are what was there and the whole
abbrev pub Makes : Piece → Piece → Piece → Piece → Type 0
Makes old all now rest =
    (rest.next ≡ all.next)
    × (now.levels ++ rest.levels ≡ old.levels ++ all.levels)
    × (now.guards ++ rest.guards ≡ old.guards ++ all.guards)
    × (now.blocks ++ rest.blocks ≡ old.blocks ++ all.blocks)
    × (now.bodies ++ rest.bodies ≡ old.bodies ++ all.bodies)

makes_more : (old all now a new rest : Piece) → Makes old all now (join a rest) → Appends now new a
    → Makes old all new rest
makes_more old all now a new rest h b = (
  h.0,
  ap (λ x. x ++ rest.levels) b.1 ∙ append_assoc now.levels a.levels rest.levels ∙ h.1,
  ap (λ x. x ++ rest.guards) b.2 ∙ append_assoc now.guards a.guards rest.guards ∙ h.2,
  ap (λ x. x ++ rest.blocks) b.3 ∙ append_assoc now.blocks a.blocks rest.blocks ∙ h.3,
  ap (λ x. x ++ rest.bodies) b.4 ∙ append_assoc now.bodies a.bodies rest.bodies ∙ h.4,
)

-- nothing is left
makes_all : (old all now : Piece) → Makes old all now (no_piece now.next) → Appends old now all
makes_all old all now h = (
  h.0,
  sym (append_nil now.levels) ∙ h.1,
  sym (append_nil now.guards) ∙ h.2,
  sym (append_nil now.blocks) ∙ h.3,
  sym (append_nil now.bodies) ∙ h.4,
)

makes_none : (old all : Piece) → Makes old all old all
makes_none old all = (refl, refl, refl, refl, refl)

-- the bits of a mask, one after another
pub bits_more : (words new is js : List ℕ) (i : ℕ) (all : List ℕ) → is ≡ i ∷ js
    → new ≡ with_bit words i → with_bits words is ≡ all → with_bits new js ≡ all
bits_more words new is js i all split set h =
    ap (λ ws. with_bits ws js) set ∙ ap (with_bits words) (sym split) ∙ h

-- ---- processes

abbrev pub Writing : Writer → Piece → List Instr → List Process → Writer → Piece → List Instr
    → List Process → Type 0
Writing w old begun whole v now is ps =
    let all = write_all w.tops.now old.next w.layout (processes whole) in
    let rest = write_all w.tops.now now.next w.layout (processes ps) in
    Makes old all.piece now rest.piece × ((is ++ rest.instrs ≡ begun ++ all.instrs) × (v ≡ w))

module _ (w : Writer) (old : Piece) (begun : List Instr) (whole : List Process) where
  abbrev Whole : Wrote
  Whole = write_all w.tops.now old.next w.layout (processes whole)

  pub writing_none : Writing w old begun whole w old begun whole
  writing_none = (makes_none old Whole.piece, (refl, refl))

  pub writing_more :
      (v : Writer) (now : Piece) (is : List Instr) (ps qs : List Process) (x : Process)
      (u : Writer) (new : Piece) (more : List Instr) → ps ≡ x ∷ qs
      → Writing w old begun whole v now is ps → Writes v u now new is more x
      → Writing w old begun whole u new more qs
  writing_more v now is ps qs x u new more split h b =
      let a = write w.tops.now now.next w.layout x in
      let rest = write_all w.tops.now a.piece.next w.layout (processes qs) in
      let there : Writing w old begun whole v now is (x ∷ qs) =
      subst (λ (rs : List Process). Writing w old begun whole v now is rs) split h in
      let here : Writes w u now new is more x =
      subst (λ (q : Writer). Writes q u now new is more x) there.1.1 b in
      let piece_is : Makes old Whole.piece new rest.piece =
      makes_more old Whole.piece now a.piece new rest.piece there.0 here.piece in
      let instrs_are : more ++ rest.instrs ≡ begun ++ Whole.instrs =
      ap (λ js. js ++ rest.instrs) here.instrs ∙ append_assoc is a.instrs rest.instrs
      ∙ there.1.0 in
      let goes_on : Makes old Whole.piece new rest.piece
      × (more ++ rest.instrs ≡ begun ++ Whole.instrs) = (piece_is, instrs_are) in
      let behind = subst
      (λ (q : At).
      Makes old Whole.piece new (write_all w.tops.now q w.layout (processes qs)).piece
      × (more ++ (write_all w.tops.now q w.layout (processes qs)).instrs ≡ begun ++ Whole.instrs))
      (sym here.piece.0) goes_on in
      (behind.0, (behind.1, here.writer))

  pub written_whole : (v : Writer) (now : Piece) (is : List Instr) (ps : List Process) → ps ≡ []
      → Writing w old begun whole v now is ps
      → Writes w v old now begun is (Par (processes whole))
  written_whole v now is ps done h =
      let ended : Writing w old begun whole v now is [] =
      subst (λ (rs : List Process). Writing w old begun whole v now is rs) done h in
      record {
        writer = ended.1.1;
        piece = makes_all old Whole.piece now ended.0;
        instrs = sym (append_nil is) ∙ ended.1.0;
      }

-- ---- definitions

abbrev pub Defining : Writer → Within → Defined → List ℕ → List Definition → Writer → Defined
    → List ℕ → List Definition → Type 0
Defining w at old acc whole v now named ds =
    let all = defs_wrote w at old acc (definitions whole) in
    let rest = defs_wrote w at now named (definitions ds) in
    (now.guards ++ rest.guards ≡ old.guards ++ all.guards)
    × ((now.places ++ rest.places ≡ old.places ++ all.places)
    × (Makes old.piece all.piece now.piece rest.piece
    × ((named ++ places_order named (definitions ds) ≡ acc ++ places_order acc (definitions whole))
    × (v ≡ w))))

module _ (w : Writer) (at : Within) (old : Defined) (acc : List ℕ) (whole : List Definition) where
  abbrev All : Defined
  All = defs_wrote w at old acc (definitions whole)

  pub defining_none : Defining w at old acc whole w old acc whole
  defining_none = (refl, (refl, (makes_none old.piece All.piece, (refl, refl))))

  pub defining_more :
      (v : Writer) (now : Defined) (named : List ℕ) (ds es : List Definition) (x : Definition)
      (u : Writer) (new : Defined) (more : List ℕ) → ds ≡ x ∷ es
      → Defining w at old acc whole v now named ds
      → Defines v u named more (place_in named x) now new (def_wrote v at now named x)
      → Defining w at old acc whole u new more es
  defining_more v now named ds es x u new more split h b =
      let a = def_wrote w at now named x in
      let named1 = named ++ place_in named x in
      let rest = write_defs w.tops.now a.piece.next at.block
      (length now.places + length a.places) at.level at.channels.now w.layout named1
      (definitions es) in
      let there : Defining w at old acc whole v now named (x ∷ es) =
      subst (λ (rs : List Definition). Defining w at old acc whole v now named rs) split h in
      let here : Defines w u named more (place_in named x) now new a =
      subst
      (λ (q : Writer).
      Defines q u named more (place_in named x) now new (def_wrote q at now named x))
      there.1.1.1.1 b in
      let added = here.defined in
      let guards_are : new.guards ++ rest.guards ≡ old.guards ++ All.guards =
      ap (λ q. q ++ rest.guards) added.0 ∙ append_assoc now.guards a.guards rest.guards
      ∙ there.0 in
      let places_are : new.places ++ rest.places ≡ old.places ++ All.places =
      ap (λ q. q ++ rest.places) added.1 ∙ append_assoc now.places a.places rest.places
      ∙ there.1.0 in
      let piece_is : Makes old.piece All.piece new.piece rest.piece =
      makes_more old.piece All.piece now.piece a.piece new.piece rest.piece there.1.1.0 added.2 in
      let named_are : named1 ++ places_order named1 (definitions es)
      ≡ acc ++ places_order acc (definitions whole) =
      append_assoc named (place_in named x) (places_order named1 (definitions es))
      ∙ there.1.1.1.0 in
      let long : length new.places ≡ length (now.places ++ a.places) = ap length added.1 in
      let count : length now.places + length a.places ≡ length new.places =
      omega (arith, long, length-append now.places a.places) in
      let goes_on : (new.guards ++ rest.guards ≡ old.guards ++ All.guards)
      × ((new.places ++ rest.places ≡ old.places ++ All.places)
      × (Makes old.piece All.piece new.piece rest.piece
      × (named1 ++ places_order named1 (definitions es)
      ≡ acc ++ places_order acc (definitions whole)))) =
      (guards_are, (places_are, (piece_is, named_are))) in
      let behind = subst (λ (q : (At × ℕ) × List ℕ).
      let r = write_defs w.tops.now q.0.0 at.block q.0.1 at.level at.channels.now w.layout q.1
      (definitions es) in
      (new.guards ++ r.guards ≡ old.guards ++ All.guards)
      × ((new.places ++ r.places ≡ old.places ++ All.places)
      × (Makes old.piece All.piece new.piece r.piece
      × (q.1 ++ places_order q.1 (definitions es) ≡ acc ++ places_order acc (definitions whole)))))
      (λ i. ((sym added.2.0 i, count i), sym here.named i)) goes_on in
      (behind.0, (behind.1.0, (behind.1.1.0, (behind.1.1.1, here.writer))))

  pub defined_whole : (v : Writer) (now : Defined) (named : List ℕ) (ds : List Definition)
      → ds ≡ [] → Defining w at old acc whole v now named ds
      → Defines w v acc named (places_order acc (definitions whole)) old now All
  defined_whole v now named ds done h =
      let ended : Defining w at old acc whole v now named [] =
      subst (λ (rs : List Definition). Defining w at old acc whole v now named rs) done h in
      record {
        writer = ended.1.1.1.1;
        named = sym (append_nil named) ∙ ended.1.1.1.0;
        defined = (
          sym (append_nil now.guards) ∙ ended.0,
          sym (append_nil now.places) ∙ ended.1.0,
          makes_all old.piece All.piece now.piece ended.1.1.0,
        );
      }

-- ---- sites

abbrev pub Coding : Naming → Piece → List SiteCode → List SiteTerm → Piece → List SiteCode
    → List SiteTerm → Type 0
Coding tops old begun whole now codes ts =
    let all = write_sites tops old.next whole in
    let rest = write_sites tops now.next ts in
    Makes old all.piece now rest.piece × (codes ++ rest.sites ≡ begun ++ all.sites)

module _ (tops : Naming) (old : Piece) (begun : List SiteCode) (whole : List SiteTerm) where
  abbrev Sites : WroteSites
  Sites = write_sites tops old.next whole

  pub coding_none : Coding tops old begun whole old begun whole
  coding_none = (makes_none old Sites.piece, refl)

  pub coding_more :
      (now : Piece) (codes : List SiteCode) (ts us : List SiteTerm) (x : SiteTerm) (new : Piece)
      (code : SiteCode) (more : List SiteCode) → ts ≡ x ∷ us
      → Coding tops old begun whole now codes ts
      → Appends now new (site_piece tops now.next (definitions x.defs) x.body)
      → code ≡ site_code tops now.next (definitions x.defs) x.body → more ≡ codes ++ code ∷ []
      → Coding tops old begun whole new more us
  coding_more now codes ts us x new code more split h b c m =
      let a = site_piece tops now.next (definitions x.defs) x.body in
      let s = site_code tops now.next (definitions x.defs) x.body in
      let v = write_sites tops a.next us in
      let w : Coding tops old begun whole now codes (x ∷ us) =
      subst (λ (rs : List SiteTerm). Coding tops old begun whole now codes rs) split h in
      let piece_is : Makes old Sites.piece new v.piece =
      makes_more old Sites.piece now a new v.piece w.0 b in
      let codes_are : more ++ v.sites ≡ begun ++ Sites.sites =
      (λ i. (m ∙ ap (λ z. codes ++ z ∷ []) c) i ++ v.sites) ∙ append_assoc codes (s ∷ []) v.sites
      ∙ w.1 in
      let goes_on : Makes old Sites.piece new v.piece × (more ++ v.sites ≡ begun ++ Sites.sites) =
      (piece_is, codes_are) in
      subst (λ (q : At). Makes old Sites.piece new (write_sites tops q us).piece
      × (more ++ (write_sites tops q us).sites ≡ begun ++ Sites.sites)) (sym b.0) goes_on

  module _ (now : Piece) (codes : List SiteCode) (ts : List SiteTerm) (done : ts ≡ [])
      (h : Coding tops old begun whole now codes ts) where
    ended_sites : Coding tops old begun whole now codes []
    ended_sites = subst (λ (rs : List SiteTerm). Coding tops old begun whole now codes rs) done h

    pub coded_piece : Appends old now Sites.piece
    coded_piece = makes_all old Sites.piece now ended_sites.0

    pub coded_sites : codes ≡ begun ++ Sites.sites
    coded_sites = sym (append_nil codes) ∙ ended_sites.1

-- all sites, where nothing was written before
pub whole_is : (tops : Naming) (ts : List SiteTerm) (start new : Piece) → start ≡ no_piece zero_at
    → Appends start new (write_sites tops start.next ts).piece
    → new ≡ (write_sites tops zero_at ts).piece
whole_is tops ts start new s a =
    let b : Appends (no_piece zero_at) new (write_sites tops zero_at ts).piece =
    subst (λ (q : Piece). Appends q new (write_sites tops q.next ts).piece) s a in
    λ i. record { next = b.0 i; levels = b.1 i; guards = b.2 i; blocks = b.3 i; bodies = b.4 i }
