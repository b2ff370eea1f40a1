-- Idle sites: what is known of them stays so, and one that no packet goes to needs no turn.
use Rattle.std.proofs.Common.{◌≡◌, ℕ, zero, suc, ◌+◌, ◌<◌, ◌⊎◌, inl, inr, Bool, true, false}
use Rattle.std.proofs.Common.{List, [], ◌∷◌, Some, replicate, length, refl, sym, ap, ◌∙◌, subst}
use Rattle.std.proofs.Common.{arith, slice_get}
use Rattle.std.specs.Prelude.{slice_set}
use Rattle.wire_packet.specs.declared.packet.Flight.{Flight}
use Rattle.env_store.specs.CodeParts.{CodeParts}
use Rattle.loc_tree.specs.Tree.{Tree, bare}
use Rattle.net_laws.specs.Net.{Net}
use Rattle.net_laws.specs.Rounds.{WorksOff, nothing_left}
use Rattle.net_laws.specs.Site.{Site}
use Rattle.reducer.specs.Ready.{NoneFires}
use Rattle.net_core.specs.declared.turn.Work.{Work}
use Rattle.net_core.specs.inside.Alone.{IsAlone, IsWorked}
use Rattle.net_core.specs.inside.Idle.{AreIdle, AreFewer, CanPass}
use Rattle.net_core.specs.Lending.{mail_to, rests}
use Rattle.net_core.specs.Parts.{carried, all_carried}
use Rattle.net_core.specs.Scheduling.{ReadyOpensNone}
use Rattle.net_core.proofs.Deliveries.{set_length}
use Rattle.net_core.proofs.Mail.{mail_elsewhere, not_same}
use Rattle.net_core.proofs.SiteReactions.{below_or, from_bare}

-- ---- one site

pub none_bare : (c : CodeParts) (t : Tree) (s : Site) → NoneFires c t s → NoneFires c (bare t) s
none_bare c t s none p x f = none p x (from_bare c t s p x f)

-- none of these packets goes there
pub no_mail : (i : ℕ) (fs : List Flight)
    → ((j : ℕ) (f : Flight) → slice_get fs j ≡ Some f → f.target ≡ i → ⊥)
    → mail_to i (all_carried fs) ≡ []
no_mail i [] none = refl
no_mail i (f ∷ fs) none =
    mail_elsewhere i (carried f) (all_carried fs) (not_same f.target i (none 0 f refl))
    ∙ no_mail i fs (λ j g at. none (suc j) g at)

-- what a turn leaves in which nothing happens
abbrev pub no_work : Work
no_work = record { on = []; made = record { sends = []; outs = []; events = [] }; idle = true }

pub passed : (c : CodeParts) (t : Tree) (quota : ℕ) (flights : List Flight) (s : Site)
    → CanPass c t flights s → IsWorked c t quota flights s no_work s
passed c t quota flights s can = record {
  mid = s;
  arrives = record {
    works = subst (λ ps. WorksOff (bare t) s ps [] s) (sym can.mail) (nothing_left s);
    spelled = tt;
  };
  reacts = record {
    works = rests quota s (λ q r. absurd (can.idle q r.pick r.fires));
    spelled = tt;
    stays = λ events few alone.
        let same : events ≡ events + 0 = omega arith in
        subst (λ (k : ℕ). IsAlone c t s.number k s []) same alone;
  };
  stays = λ events alone. subst (IsAlone c t s.number events s) can.mail alone;
  idle = λ e. can.idle;
}

-- ---- all sites

pub none_known : (c : CodeParts) (t : Tree) (sites : List Site) (idle : List Bool) → idle ≡ []
    → AreIdle c t sites idle
none_known c t sites idle none i s flag at =
    let clash : slice_get {X = Bool} [] i ≡ Some true =
    ap (λ bs. slice_get bs i) (sym none) ∙ flag in
    cc

pub fewer_idle : (c : CodeParts) (t : Tree) (sites : List Site) (old new : List Bool)
    → AreFewer old new → AreIdle c t sites old → AreIdle c t sites new
fewer_idle c t sites old new fewer all i s flag at = all i s (fewer i flag) at

pub idle_set : (c : CodeParts) (t : Tree) (sites : List Site) (idle : List Bool) (i : ℕ) (s : Site)
    (b : Bool) → AreIdle c t sites idle → (b ≡ true → NoneFires c t s)
    → AreIdle c t (slice_set sites i s) (slice_set idle i b)
idle_set c t [] idle i s b all one j u flag at = cc
idle_set c t (x ∷ xs) [] i s b all one j u flag at = cc
idle_set c t (x ∷ xs) (y ∷ ys) zero s b all one zero u flag at =
    let same : s ≡ u = cc in
    let said : b ≡ true = cc in
    subst (NoneFires c t) same (one said)
idle_set c t (x ∷ xs) (y ∷ ys) zero s b all one (suc j) u flag at = all (suc j) u flag at
idle_set c t (x ∷ xs) (y ∷ ys) (suc i) s b all one zero u flag at = all zero u flag at
idle_set c t (x ∷ xs) (y ∷ ys) (suc i) s b all one (suc j) u flag at =
    idle_set c t xs ys i s b (λ k v said here. all (suc k) v said here) one j u flag at

-- at an idle site no reaction is ready, so none that opens a location
pub idle_opens_none : (c : CodeParts) (net : Net) (idle : List Bool) (i : ℕ)
    → AreIdle c net.tree net.sites idle → slice_get idle i ≡ Some true → ReadyOpensNone c net i
idle_opens_none c net idle i all flag p h =
    absurd (all i h.site flag h.site_is p h.ready.pick h.ready.fires)

-- ---- sites to which packets go

-- the first n of these packets woke their sites
pub record IsWaking (flights : List Flight) (n : ℕ) (old idle : List Bool) : Type 0 where
  pub many : length idle ≡ length old
  pub fewer : AreFewer old idle
  pub uncalled :
      (i j : ℕ) (f : Flight) → j < n → slice_get idle i ≡ Some true
      → slice_get flights j ≡ Some f → f.target ≡ i → ⊥

pub none_woken : (flights : List Flight) (idle : List Bool) → IsWaking flights 0 idle idle
none_woken flights idle = record {
  many = refl;
  fewer = λ i flag. flag;
  uncalled = λ i j f below flag at to. absurd (omega (arith, below));
}

pub woken : (xs : List Bool) (at i : ℕ) → slice_get (slice_set xs at false) i ≡ Some true
    → (slice_get xs i ≡ Some true) × (at ≡ i → ⊥)
woken [] at i e = cc
woken (x ∷ xs) zero zero e = cc
woken (x ∷ xs) zero (suc i) e = (e, λ same. absurd (omega (arith, same)))
woken (x ∷ xs) (suc at) zero e = (e, λ same. absurd (omega (arith, same)))
woken (x ∷ xs) (suc at) (suc i) e =
    let rest = woken xs at i e in
    (rest.0, λ same. rest.1 (omega (arith, same)))

pub one_woken : (flights : List Flight) (n : ℕ) (f : Flight) (old idle new : List Bool)
    → slice_get flights n ≡ Some f → new ≡ slice_set idle f.target false
    → IsWaking flights n old idle → IsWaking flights (n + 1) old new
one_woken flights n f old idle new at is h = record {
  many = ap length is ∙ set_length idle f.target false ∙ h.many;
  fewer = λ i flag. h.fewer i (before i flag).0;
  uncalled = λ i j g below flag there to. go i j g flag there to (below_or n j below);
}
  where
    before : (i : ℕ) → slice_get new i ≡ Some true
        → (slice_get idle i ≡ Some true) × (f.target ≡ i → ⊥)
    before i flag = woken idle f.target i (ap (λ bs. slice_get bs i) (sym is) ∙ flag)

    go : (i j : ℕ) (g : Flight) → slice_get new i ≡ Some true → slice_get flights j ≡ Some g
        → g.target ≡ i → (j < n) ⊎ (j ≡ n) → ⊥
    go i j g flag there to (inl low) = h.uncalled i j g low (before i flag).0 there to
    go i j g flag there to (inr last) =
        let here : slice_get flights n ≡ Some g = ap (slice_get flights) (sym last) ∙ there in
        let same : f ≡ g = cc in
        (before i flag).1 (ap (λ (x : Flight). x.target) same ∙ to)

-- ---- where nothing was known

none_true : (n i : ℕ) → slice_get (replicate n false) i ≡ Some true → ⊥
none_true zero i e = cc
none_true (suc n) zero e = cc
none_true (suc n) (suc i) e = none_true n i e

pub none_yet : (n : ℕ) (old new : List Bool) → new ≡ replicate n false → AreFewer old new
none_yet n old new is i flag =
    absurd (none_true n i (ap (λ bs. slice_get bs i) (sym is) ∙ flag))
