-- Where requests wait: nothing is lost where keys are added, and where the keys of one request go.
use Rattle.std.proofs.Common.{◌≡◌, ℕ, List, [], ◌∷◌, Option, Some, None, Bool, true, false, refl}
use Rattle.std.proofs.Common.{sym, ap, ◌∙◌, subst, ◌⊎◌, inl, inr, Result, Ok, Err}
use Rattle.std.specs.Prelude.{OnOk}
use Rattle.std.proofs.lemmas.Bool.{false≢true}
use Rattle.chem_model.specs.declared.name.Loc.{Loc}
use Rattle.chem_model.specs.declared.event.AtomId.{AtomId}
use Rattle.chem_model.specs.declared.numbered.NumberedAtom.{NumberedAtom}
use Rattle.chem_model.specs.declared.numbered.Numbered.{Numbered}
use Rattle.chem_model.specs.Process.{Process, Msg, Par, Def, Go, Fail, Halt}
use Rattle.chem_model.specs.Each.{Each, IsIn}
use Rattle.chem_model.specs.Solution.{Standing, Places, same_loc, is_there, host_of, or_itself}
use Rattle.chem_model.specs.Solution.{root, within}
use Rattle.chem_model.specs.Numbered.{standing}
use Rattle.chem_model.specs.Apply.{same_atom, atom_at}
use Rattle.chem_model.specs.Sound.{IsSound, IsAtom}
use Rattle.chem_laws.proofs.Lists.{either_true, Each-left}
use Rattle.chem_laws.proofs.Within.{same_loc_is}
use Rattle.chem_laws.proofs.Places.{root_is}
use Rattle.chem_laws.proofs.Taking.{same_atom_is, same_atom_refl}
use Rattle.book_store.specs.Keys.{Key, KeepsKeys, HasAll, place_number, channel_of}
use Rattle.book_store.specs.Candidates.{IsCandidate, KeepsCandidates}
use Rattle.book_store.specs.Asked.{atom_pair, awaited, IsNever, asks_nothing, IsAsked, AreAsked}
use Rattle.book_store.specs.Asked.{AreCalled, KeepsAsking, IsCalledAt, HasAllWithin, KeepsBut}
use Rattle.book_store.specs.Asked.{KeepsAskingBut}
use Rattle.book_store.specs.declared.asking.Asking.{Asking}
use Rattle.book_store.specs.declared.candidates.Candidates.{Candidates}
use Rattle.chem_commit.specs.inside.Differ.{AtomsDiffer}
use Rattle.book_store.proofs.ByNumber.{atom_has, member_found}
use Rattle.book_store.specs.Older.{whole}
use Rattle.book_store.proofs.Apart.{differ_front}
use Rattle.book_store.proofs.SoundLaws.{differ_of}
use Rattle.book_store.proofs.Resting.{Rests}

abbrev pub id_of : ℕ × ℕ → AtomId
id_of p = record { site = p.0; k = p.1 }

pair_id : (i j : AtomId) → atom_pair i ≡ atom_pair j → i ≡ j
pair_id i j e = ap id_of e

same_atom_found : (a b : NumberedAtom) → Some a ≡ Some b → a ≡ b
same_atom_found a b e = cc

same_place : (o : Option Loc) (a b : Loc) → o ≡ Some a → o ≡ Some b → a ≡ b
same_place o a b e f = let both : Some a ≡ Some b = sym e ∙ f in cc

-- what holds of each holds of a member
pub member_of : {X : Type 0} (P : X → Type 0) (xs : List X) (x : X) → IsIn x xs → Each P xs → P x
member_of P [] x at h = absurd at
member_of P (y ∷ xs) x (inl e) h = subst P (sym e) h.0
member_of P (y ∷ xs) x (inr at) h = member_of P xs x at h.1

-- an older request stands as it has to
pub older_atom : (n : Numbered) (old : List NumberedAtom) (a : NumberedAtom)
    → IsSound (whole old n) → IsIn a old → IsAtom n a
older_atom n old a sound at =
    member_of (IsAtom n) old a at (Each-left (IsAtom n) old n.atoms sound.atoms)

pub older_differ : (n : Numbered) (old : List NumberedAtom) → IsSound (whole old n)
    → AtomsDiffer old
older_differ n old sound = differ_front old n.atoms (differ_of (whole old n) sound)

-- two facts on what was done
pub both_ok : {A E : Type 0} (P Q R : Type 0) → (P → Q → R) → (r : Result A E) → OnOk r P
    → OnOk r Q → OnOk r R
both_ok P Q R f (Ok x) p q = f p q
both_ok P Q R f (Err e) p q = tt

-- ---- nothing is lost

pub keeps_ready : (c : Candidates) → KeepsCandidates c c
keeps_ready c = record { sites = λ k at. at; places = λ k at. at }

pub keeps_all : (s : Asking) → KeepsAsking s s
keeps_all s = record { awaits = λ k at. at; ready = keeps_ready s.ready }

pub keeps_on : (old mid new : Asking) → KeepsAsking old mid → KeepsAsking mid new
    → KeepsAsking old new
keeps_on old mid new first second = record {
  awaits = λ k at. second.awaits k (first.awaits k at);
  ready = record {
    sites = λ k at. second.ready.sites k (first.ready.sites k at);
    places = λ k at. second.ready.places k (first.ready.places k at);
  };
}

pub candidate_kept : (pl : Places) (old new : Candidates) → KeepsCandidates old new → (l : Loc)
    (i : ℕ × ℕ) → IsCandidate pl old l i → IsCandidate pl new l i
candidate_kept pl old new kept l i h = record {
  at_site = kept.sites ((root pl l).site, i) h.at_site;
  at_place = kept.places (place_number l, i) h.at_place;
}

pub is_candidate : (pl : Places) (s : Asking) (l r : Loc) (i : ℕ × ℕ) → r ≡ root pl l
    → IsIn {X = Key} (r.site, i) s.ready.sites.keys
    → IsIn {X = Key} (place_number l, i) s.ready.places.keys → IsCandidate pl s.ready l i
is_candidate pl s l r i e at_site at_place = record {
  at_site = subst (λ (x : Loc). IsIn {X = Key} (x.site, i) s.ready.sites.keys) e at_site;
  at_place = at_place;
}

module _ (version : ℕ) (pl : Places) where
  pub asked_kept : (old new : Asking) → KeepsAsking old new → (a : NumberedAtom)
      → IsAsked version pl old a → IsAsked version pl new a
  asked_kept old new kept a (inl c) =
      inl (candidate_kept pl old.ready new.ready kept.ready a.loc (atom_pair a.id) c)
  asked_kept old new kept a (inr (inl w)) = inr (inl (record {
    target = w.target;
    awaits = w.awaits;
    alive = w.alive;
    at = kept.awaits (place_number w.target, atom_pair a.id) w.at;
  }))
  asked_kept old new kept a (inr (inr never)) = inr (inr never)

  pub are_asked_kept : (old new : Asking) → KeepsAsking old new → (atoms : List NumberedAtom)
      → AreAsked version pl old atoms → AreAsked version pl new atoms
  are_asked_kept old new kept atoms h a at = asked_kept old new kept a (h a at)

  -- what is kept of one request may go where another one is asked
  pub asked_but : (i : AtomId) (old new : Asking) → KeepsAskingBut i old new → (a : NumberedAtom)
      → (a.id ≡ i → ⊥) → IsAsked version pl old a → IsAsked version pl new a
  asked_but i old new kept a other h = go h
    where
      still : (k : ℕ) (ks : List Key)
          → (atom_pair a.id ≡ atom_pair i) ⊎ IsIn {X = Key} (k, atom_pair a.id) ks
          → IsIn {X = Key} (k, atom_pair a.id) ks
      still k ks (inl e) = absurd (other (pair_id a.id i e))
      still k ks (inr at) = at

      go : IsAsked version pl old a → IsAsked version pl new a
      go (inl c) = inl (record {
        at_site = still (root pl a.loc).site new.ready.sites.keys
            (kept.sites ((root pl a.loc).site, atom_pair a.id) c.at_site);
        at_place = still (place_number a.loc) new.ready.places.keys
            (kept.places (place_number a.loc, atom_pair a.id) c.at_place);
      })
      go (inr (inl w)) = inr (inl (record {
        target = w.target;
        awaits = w.awaits;
        alive = w.alive;
        at = still (place_number w.target) new.awaits.keys
            (kept.awaits (place_number w.target, atom_pair a.id) w.at);
      }))
      go (inr (inr never)) = inr (inr never)

  -- one key of a site may go where none is at that site that has this number
  pub asked_unless : (old new : Asking) (key : Key) → KeepsKeys old.awaits.keys new.awaits.keys
      → ((k : Key) → IsIn k old.ready.sites.keys → (k ≡ key) ⊎ IsIn k new.ready.sites.keys)
      → KeepsKeys old.ready.places.keys new.ready.places.keys → (a : NumberedAtom)
      → (◌≡◌ {A = Key} ((root pl a.loc).site, atom_pair a.id) key → ⊥)
      → IsAsked version pl old a → IsAsked version pl new a
  asked_unless old new key awaits sites places a other h = go h
    where
      still : (◌≡◌ {A = Key} ((root pl a.loc).site, atom_pair a.id) key)
          ⊎ IsIn {X = Key} ((root pl a.loc).site, atom_pair a.id) new.ready.sites.keys
          → IsIn {X = Key} ((root pl a.loc).site, atom_pair a.id) new.ready.sites.keys
      still (inl e) = absurd (other e)
      still (inr at) = at

      go : IsAsked version pl old a → IsAsked version pl new a
      go (inl c) = inl (record {
        at_site = still (sites ((root pl a.loc).site, atom_pair a.id) c.at_site);
        at_place = places (place_number a.loc, atom_pair a.id) c.at_place;
      })
      go (inr (inl w)) = inr (inl (record {
        target = w.target;
        awaits = w.awaits;
        alive = w.alive;
        at = awaits (place_number w.target, atom_pair a.id) w.at;
      }))
      go (inr (inr never)) = inr (inr never)

  -- what is kept of one request changes, and it is asked then
  pub asked_again : (old new : Asking) (atoms : List NumberedAtom) (a : NumberedAtom)
      → AtomsDiffer atoms → IsIn a atoms → KeepsAskingBut a.id old new
      → AreAsked version pl old atoms → IsAsked version pl new a → AreAsked version pl new atoms
  asked_again old new atoms a d at kept h is b in_b = go (same_atom b.id a.id) refl
    where
      go : (t : Bool) → same_atom b.id a.id ≡ t → IsAsked version pl new b
      go true e =
          let one = member_found atoms d a at in
          let two =
          ap (atom_at atoms) (sym (same_atom_is b.id a.id e)) ∙ member_found atoms d b in_b in
          let both : Some a ≡ Some b = sym one ∙ two in
          let same : a ≡ b = cc in
          subst (λ (x : NumberedAtom). IsAsked version pl new x) same is
      go false e = asked_but a.id old new kept b (λ same. absurd (false≢true
          (sym e ∙ ap (λ (i : AtomId). same_atom i a.id) same ∙ same_atom_refl a.id))) (h b in_b)

  -- no request of these has a key that stands for none, or for one at another site
  pub asked_elsewhere : (old new : Asking) (atoms : List NumberedAtom) (key : Key)
      → AtomsDiffer atoms → KeepsKeys old.awaits.keys new.awaits.keys
      → ((k : Key) → IsIn k old.ready.sites.keys → (k ≡ key) ⊎ IsIn k new.ready.sites.keys)
      → KeepsKeys old.ready.places.keys new.ready.places.keys
      → ((a : NumberedAtom) → atom_at atoms (id_of key.1) ≡ Some a
      → (root pl a.loc).site ≡ key.0 → ⊥)
      → AreAsked version pl old atoms → AreAsked version pl new atoms
  asked_elsewhere old new atoms key d awaits sites places none h a at =
      asked_unless old new key awaits sites places a
      (λ e. none a (ap (λ (k : Key). atom_at atoms (id_of k.1)) (sym e) ∙ member_found atoms d a at)
      (ap (λ (k : Key). k.0) e)) (h a at)

  -- ---- a request looked at

  -- it is filed where it waits
  pub asked_filed : (s : Asking) (a : NumberedAtom) (t : Loc) → Some t ≡ awaited a.term
      → Rests version pl a.loc a.term
      → IsIn {X = Key} (place_number t, atom_pair a.id) s.awaits.keys → IsAsked version pl s a
  asked_filed s a t e (inl w) at = inr (inl (record {
    target = w.0;
    awaits = w.1;
    alive = w.2;
    at = subst (λ (x : Loc). IsIn {X = Key} (place_number x, atom_pair a.id) s.awaits.keys)
        (same_place (awaited a.term) t w.0 (sym e) w.1) at;
  }))
  asked_filed s a t e (inr never) at = inr (inr never)

  -- or waits for nothing
  pub asked_never : (s : Asking) (a : NumberedAtom) → None ≡ awaited a.term
      → Rests version pl a.loc a.term → IsAsked version pl s a
  asked_never s a e (inl w) = let wrong : None ≡ Some w.0 = e ∙ w.1 in cc
  asked_never s a e (inr never) = inr (inr never)

  -- a message is no request
  pub asked_message : (s : Asking) (a : NumberedAtom) (c : ℕ) → channel_of a.term ≡ Some c
      → IsAsked version pl s a
  asked_message s a c e = inr (inr (go a.term e))
    where
      go : (q : Process) → channel_of q ≡ Some c → IsNever version pl a.loc q
      go (Msg x vs) f = asks_nothing refl refl refl
      go (Par ps) f = cc
      go (Def ds p) f = cc
      go (Go b k) f = cc
      go (Fail b k) f = cc
      go Halt f = cc

-- a key that stands for a request at another site stands for none here
pub at_other_site :
    (pl : Places) (atoms : List NumberedAtom) (key : Key) (a : NumberedAtom) (r : Loc)
    → Some a ≡ atom_at atoms (id_of key.1) → r ≡ root pl a.loc → (r.site ≡ key.0 → ⊥)
    → (b : NumberedAtom) → atom_at atoms (id_of key.1) ≡ Some b → (root pl b.loc).site ≡ key.0 → ⊥
at_other_site pl atoms key a r found is other b has here =
    let one : a ≡ b = same_atom_found a b (found ∙ has) in
    other (ap (λ (x : Loc). x.site) is ∙ ap (λ (x : NumberedAtom). (root pl x.loc).site) one
    ∙ here)

pub at_no_site : (pl : Places) (atoms : List NumberedAtom) (key : Key)
    → None ≡ atom_at atoms (id_of key.1) → (b : NumberedAtom)
    → atom_at atoms (id_of key.1) ≡ Some b → (root pl b.loc).site ≡ key.0 → ⊥
at_no_site pl atoms key none b has here = let wrong : None ≡ Some b = none ∙ has in cc

-- ---- those that wait for a location

-- what is within a location that is no root is this location itself
within_or : (n : Numbered) → IsSound n → (t l : Loc) → within (standing n.places) t l ≡ true
    → (l.k ≡ 0) ⊎ (t ≡ l)
within_or n sound t l h = go (either_true (same_loc t l) (same_loc (root pl t) l) h)
  where
    pl : Places
    pl = standing n.places

    not_there : (o : Option Standing) → is_there o ≡ false → or_itself (host_of o) t ≡ t
    not_there None e = refl
    not_there (Some s) e = absurd (false≢true (sym e))

    root_of_it : root pl t ≡ l → (b : Bool) → is_there (pl t) ≡ b → (l.k ≡ 0) ⊎ (t ≡ l)
    root_of_it e true there =
        inl (ap (λ (x : Loc). x.k) (sym e) ∙ (root_is n sound t there).0.0)
    root_of_it e false there = inr (sym (not_there (pl t) there) ∙ e)

    go : (same_loc t l ≡ true) ⊎ (same_loc (root pl t) l ≡ true) → (l.k ≡ 0) ⊎ (t ≡ l)
    go (inl e) = inr (same_loc_is t l e)
    go (inr e) = root_of_it (same_loc_is (root pl t) l e) (is_there (pl t)) refl

pub called_kept : (pl : Places) (old new : Asking) → KeepsAsking old new → (l : Loc)
    (atoms : List NumberedAtom) (i : AtomId) → IsCalledAt pl old l atoms i
    → IsCalledAt pl new l atoms i
called_kept pl old new kept l atoms i h a t found waits inside = candidate_kept pl old.ready
    new.ready kept.ready a.loc (atom_pair a.id) (h a t found waits inside)

-- those with one of these keys were called
abbrev pub AreCalledAt : Places → Asking → Loc → List NumberedAtom → List Key → Type 0
AreCalledAt pl s l atoms list = (k : Key) → IsIn k list → IsCalledAt pl s l atoms (id_of k.1)

-- the request with this number is a candidate
pub called_here :
    {A E : Type 0} (pl : Places) (s : Asking) (l : Loc) (atoms : List NumberedAtom) (i : AtomId)
    (a : NumberedAtom) (r : Loc) (done : Result A E) → Some a ≡ atom_at atoms i → r ≡ root pl a.loc
    → OnOk done (IsIn {X = Key} (r.site, atom_pair i) s.ready.sites.keys)
    → OnOk done (IsIn {X = Key} (place_number a.loc, atom_pair i) s.ready.places.keys)
    → OnOk done (IsCalledAt pl s l atoms i)
called_here pl s l atoms i a r done found is sites places =
    both_ok (IsIn {X = Key} (r.site, atom_pair i) s.ready.sites.keys)
    (IsIn {X = Key} (place_number a.loc, atom_pair i) s.ready.places.keys)
    (IsCalledAt pl s l atoms i)
    (λ site place b t has waits inside.
    let one : a ≡ b = same_atom_found a b (found ∙ has) in
    let id : a.id ≡ i = atom_has atoms i a (sym found) in
    subst (λ (x : NumberedAtom). IsCandidate pl s.ready x.loc (atom_pair x.id)) one
    (is_candidate pl s a.loc r (atom_pair a.id) is
    (subst (λ (j : AtomId). IsIn {X = Key} (r.site, atom_pair j) s.ready.sites.keys) (sym id) site)
    (subst (λ (j : AtomId). IsIn {X = Key} (place_number a.loc, atom_pair j) s.ready.places.keys)
    (sym id) place))) done sites places

-- all that may wait for the location were called
pub all_called :
    (n : Numbered) (old new : Asking) (l : Loc) (atoms : List NumberedAtom) (list : List Key)
    → IsSound n → AtomsDiffer atoms → HasAllWithin l old.awaits.keys list → KeepsAsking old new
    → AreCalledAt (standing n.places) new l atoms list
    → AreAsked n.version (standing n.places) old atoms
    → AreCalled n.version (standing n.places) new l atoms
all_called n old new l atoms list sound d all kept called h a at = (
  asked_kept n.version (standing n.places) old new kept a (h a at),
  λ t waits inside. go t waits inside (h a at),
)
  where
    pl : Places
    pl = standing n.places

    go : (t : Loc) → awaited a.term ≡ Some t → within pl t l ≡ true → IsAsked n.version pl old a
        → IsCandidate pl new.ready a.loc (atom_pair a.id) ⊎ IsNever n.version pl a.loc a.term
    go t waits inside (inl c) =
        inl (candidate_kept pl old.ready new.ready kept.ready a.loc (atom_pair a.id) c)
    go t waits inside (inr (inr never)) = inr never
    go t waits inside (inr (inl w)) =
        inl (called (place_number w.target, atom_pair a.id)
        (all (place_number w.target, atom_pair a.id) w.at (near (within_or n sound t l inside)))
        a t (member_found atoms d a at) waits inside)
      where
        near : (l.k ≡ 0) ⊎ (t ≡ l)
            → (l.k ≡ 0) ⊎ (place_number w.target ≡ place_number l)
        near (inl e) = inl e
        near (inr e) = inr (ap place_number
            (same_place (awaited a.term) w.target t w.awaits waits ∙ e))

-- all keys with the number of a location that is no root
pub within_number : (l : Loc) (c : ℕ) (keys list : List Key) → c ≡ place_number l
    → (l.k ≡ 0 → ⊥) → HasAll c keys list → HasAllWithin l keys list
within_number l c keys list is no_root all k at (inl e) = absurd (no_root e)
within_number l c keys list is no_root all k at (inr e) = all k at (e ∙ sym is)

-- ---- keys that go

pub keeps_but : (i : AtomId) (c : ℕ) (old new : List Key)
    → ((k : Key) → IsIn k old → (k ≡ (c, atom_pair i)) ⊎ IsIn k new) → KeepsBut i old new
keeps_but i c old new h k at = go (h k at)
  where
    go : (k ≡ (c, atom_pair i)) ⊎ IsIn k new → (k.1 ≡ atom_pair i) ⊎ IsIn k new
    go (inl e) = inl (ap (λ (j : Key). j.1) e)
    go (inr still) = inr still
