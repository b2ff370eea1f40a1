-- Messages and requests that become older ones, or newest ones again: what is known of a solution
-- stays, and so does what the store keeps.
use Rattle.std.proofs.Common.{◌≡◌, ℕ, ◌+◌, ◌<◌, List, [], ◌∷◌, ◌++◌, Some, None, refl, sym, ap, ◌∙◌}
use Rattle.std.proofs.Common.{subst, arith, ◌⊎◌, inl, inr, length, take, drop, get_or, Result, Ok}
use Rattle.std.proofs.Common.{Err, add-one}
use Rattle.std.proofs.Math.Seq.{take-suc}
use Rattle.std.specs.Prelude.{OnOk, OnErr}
use Rattle.chem_model.specs.declared.event.AtomId.{AtomId}
use Rattle.chem_model.specs.declared.numbered.NumberedRule.{NumberedRule}
use Rattle.chem_model.specs.declared.numbered.NumberedAtom.{NumberedAtom}
use Rattle.chem_model.specs.declared.numbered.Numbered.{Numbered}
use Rattle.chem_model.specs.Each.{Each, IsIn}
use Rattle.chem_model.specs.Solution.{Places}
use Rattle.chem_model.specs.Numbered.{standing}
use Rattle.chem_model.specs.Apply.{atom_at, without}
use Rattle.chem_model.specs.Sound.{IsSound}
use Rattle.chem_laws.proofs.Lists.{Each-append, Each-weaker}
use Rattle.book_store.specs.Keys.{Key, KeepsKeys, channel_of}
use Rattle.book_store.specs.Older.{whole, Keeps}
use Rattle.book_store.specs.inside.Table.{Adds}
use Rattle.book_store.specs.Watched.{IsWatched, AreWatched, no_number}
use Rattle.book_store.specs.Asked.{atom_pair, IsAsked, AreAsked, KeepsAsking, KeepsAskingBut}
use Rattle.book_store.specs.Stored.{IsStored, Moves, AreGone}
use Rattle.book_store.specs.declared.asking.Asking.{Asking}
use Rattle.book_store.specs.declared.older.Older.{Older}
use Rattle.book_store.specs.declared.store.Store.{Store}
use Rattle.book_store.specs.declared.waiting.Waiting.{Waiting}
use Rattle.chem_commit.specs.inside.Differ.{AtomsDiffer}
use Rattle.book_store.proofs.ByNumber.{gone}
use Rattle.book_store.proofs.SoundLaws.{sound_alike, differ_of}
use Rattle.book_store.proofs.Apart.{settled, brought, fewer, differ_added, not_older, each_added}
use Rattle.book_store.proofs.Apart.{each_left}
use Rattle.book_store.proofs.AskLaws.{keeps_all, asked_kept, are_asked_kept, asked_but}
use Rattle.book_store.proofs.AskLaws.{asked_message, older_differ}

-- ---- what moved, and what didn't

pub sound_moved : (n m : Numbered) (s t : Store) → Moves n s m t → IsSound (whole s.older.table n)
    → IsSound (whole t.older.table m)
sound_moved n m s t moves sound =
    subst IsSound
    (sym (ap (λ (x : Numbered). record x { atoms = t.older.table ++ m.atoms }) moves.rest))
    (sound_alike (whole s.older.table n) (t.older.table ++ m.atoms) moves.keeps.differ
    moves.keeps.alike sound)

-- nothing moved
pub stays : (n : Numbered) (s t : Store) → IsSound (whole s.older.table n)
    → t.older.table ≡ s.older.table → Moves n s n t
stays n s t sound same = record {
  rest = refl;
  keeps = subst (λ (l : List NumberedAtom). Keeps s.older.table n.atoms l n.atoms) (sym same)
      (record { alike = λ i. refl; differ = differ_of (whole s.older.table n) sound });
}

pub moves_on : (n m o : Numbered) (s t u : Store) → Moves n s m t → Moves m t o u → Moves n s o u
moves_on n m o s t u first second = record {
  rest = second.rest ∙ ap (λ (x : Numbered). record x { atoms = o.atoms }) first.rest;
  keeps = record {
    alike = λ i. first.keeps.alike i ∙ second.keeps.alike i;
    differ = second.keeps.differ;
  };
}

-- the store keeps what it keeps, whichever are the newest
pub stored_still : (n : Numbered) (ys : List NumberedAtom) (s : Store) → IsStored n s
    → IsStored (record n { atoms = ys }) s
stored_still n ys s h = record { watched = h.watched; asked = h.asked }

-- ---- rules

-- a message of one channel came, where no rule is filed at it
pub watched_added :
    (c : ℕ) (i : ℕ × ℕ) (pl : Places) (ks new : List Key) (w : Waiting) (rules : List NumberedRule)
    → ((k : Key) → IsIn k new → (k ≡ (c, i)) ⊎ IsIn k ks) → AreWatched c pl ks w rules
    → AreWatched no_number pl new w rules
watched_added c i pl ks new w rules only h =
    record { within = h.within; each = λ j r low at. go r (h.each j r low at) }
  where
    go : (r : NumberedRule) → IsWatched c pl ks w r → IsWatched no_number pl new w r
    go r (inr rest) = inr rest
    go r (inl filed) = inl (record {
      channel = filed.channel;
      is = record {
        pat = filed.is.pat;
        within = filed.is.within;
        number = filed.is.number;
        low = filed.is.low;
        bare = λ k at e. still k e (only k at);
        other = λ e. let low = filed.is.low in omega (arith, e, low);
      };
      at = filed.at;
    })
      where
        still : (k : Key) → k.0 ≡ filed.channel → (k ≡ (c, i)) ⊎ IsIn k ks → ⊥
        still k e (inl same) = filed.is.other (sym e ∙ ap (λ (j : Key). j.0) same)
        still k e (inr at) = filed.is.bare k at e

-- keys went
pub watched_fewer : (pl : Places) (ks new : List Key) (w : Waiting) (rules : List NumberedRule)
    → KeepsKeys new ks → AreWatched no_number pl ks w rules → AreWatched no_number pl new w rules
watched_fewer pl ks new w rules only h =
    record { within = h.within; each = λ j r low at. go r (h.each j r low at) }
  where
    go : (r : NumberedRule) → IsWatched no_number pl ks w r → IsWatched no_number pl new w r
    go r (inr rest) = inr rest
    go r (inl filed) = inl (record {
      channel = filed.channel;
      is = record {
        pat = filed.is.pat;
        within = filed.is.within;
        number = filed.is.number;
        low = filed.is.low;
        bare = λ k at e. filed.is.bare k (only k at) e;
        other = filed.is.other;
      };
      at = filed.at;
    })

-- what holds for a list holds for an equal one
pub asked_same : (version : ℕ) (pl : Places) (s : Asking) (old now : List NumberedAtom) → now ≡ old
    → AreAsked version pl s old → AreAsked version pl s now
asked_same version pl s old now e h =
    subst (λ (l : List NumberedAtom). AreAsked version pl s l) (sym e) h

-- ---- one becomes an older one

module _ (n : Numbered) (old now : List NumberedAtom) (a : NumberedAtom)
    (sound : IsSound (whole old n)) (there : IsIn a n.atoms) where
  pub isnt_older : atom_at old a.id ≡ None
  isnt_older = not_older old n.atoms a (differ_of (whole old n) sound) there

  now_differ : Adds a old now → AtomsDiffer now
  now_differ adds = differ_added old now n.atoms a (differ_of (whole old n) sound) there adds

  pub asked_added : (version : ℕ) (pl : Places) (s t : Asking) → Adds a old now → KeepsAsking s t
      → IsAsked version pl t a → AreAsked version pl s old → AreAsked version pl t now
  asked_added version pl s t adds kept is h =
      each_added (IsAsked version pl t) old now a (now_differ adds) adds is
      (λ b at. asked_kept version pl s t kept b (h b at))

  pub message_asked : (version : ℕ) (pl : Places) (s : Asking) (c : ℕ)
      → channel_of a.term ≡ Some c → Adds a old now → AreAsked version pl s old
      → AreAsked version pl s now
  message_asked version pl s c is adds h =
      asked_added version pl s s adds (keeps_all s) (asked_message version pl s a c is) h

-- a message and its key came, or its key alone
pub message_settled :
    {A E : Type 0} (n : Numbered) (s t : Store) (a : NumberedAtom) (c : ℕ) (r : Result A E)
    → IsSound (whole s.older.table n) → IsIn a n.atoms → channel_of a.term ≡ Some c
    → ((k : Key) → IsIn k t.older.keys.keys
    → (k ≡ (c, atom_pair a.id)) ⊎ IsIn k s.older.keys.keys)
    → AreWatched c (standing n.places) s.older.keys.keys t.waiting n.rules → t.asking ≡ s.asking
    → IsStored n s → OnOk r (Adds a s.older.table t.older.table)
    → OnErr r (t.older.table ≡ s.older.table) → IsStored n t
message_settled n s t a c r sound there is only free asking h ok err = go r ok err
  where
    watched : AreWatched no_number (standing n.places) t.older.keys.keys t.waiting n.rules
    watched = watched_added c (atom_pair a.id) (standing n.places) s.older.keys.keys
        t.older.keys.keys t.waiting n.rules only free

    asked : AreAsked n.version (standing n.places) t.asking s.older.table
    asked = subst (λ (x : Asking). AreAsked n.version (standing n.places) x s.older.table)
        (sym asking) h.asked

    go : {A E : Type 0} (q : Result A E) → OnOk q (Adds a s.older.table t.older.table)
        → OnErr q (t.older.table ≡ s.older.table) → IsStored n t
    go (Ok x) adds e = record {
      watched = watched;
      asked = message_asked n s.older.table t.older.table a sound there n.version
          (standing n.places) t.asking c is adds asked;
    }
    go (Err x) o same = record {
      watched = watched;
      asked = asked_same n.version (standing n.places) t.asking s.older.table t.older.table same
          asked;
    }

-- a request came, which is asked
pub request_settled :
    {A E : Type 0} (n : Numbered) (s t : Store) (a : NumberedAtom) (r : Result A E)
    → IsSound (whole s.older.table n) → IsIn a n.atoms → t.older.keys.keys ≡ s.older.keys.keys
    → t.waiting ≡ s.waiting → KeepsAsking s.asking t.asking
    → IsAsked n.version (standing n.places) t.asking a → IsStored n s
    → OnOk r (Adds a s.older.table t.older.table) → OnErr r (t.older.table ≡ s.older.table)
    → IsStored n t
request_settled n s t a r sound there keys waiting kept asks h ok err = go r ok err
  where
    watched : AreWatched no_number (standing n.places) t.older.keys.keys t.waiting n.rules
    watched = subst (λ (w : Waiting).
        AreWatched no_number (standing n.places) t.older.keys.keys w n.rules) (sym waiting)
        (subst (λ (ks : List Key). AreWatched no_number (standing n.places) ks s.waiting n.rules)
        (sym keys) h.watched)

    go : {A E : Type 0} (q : Result A E) → OnOk q (Adds a s.older.table t.older.table)
        → OnErr q (t.older.table ≡ s.older.table) → IsStored n t
    go (Ok x) adds e = record {
      watched = watched;
      asked = asked_added n s.older.table t.older.table a sound there n.version
          (standing n.places) s.asking t.asking adds kept asks h.asked;
    }
    go (Err x) o same = record {
      watched = watched;
      asked = asked_same n.version (standing n.places) t.asking s.older.table t.older.table same
          (are_asked_kept n.version (standing n.places) s.asking t.asking kept s.older.table
          h.asked);
    }

-- it went from its place among the newest
pub settle_moves :
    (n : Numbered) (s t : Store) (items ys : List NumberedAtom) (a : NumberedAtom) (j : ℕ)
    → IsSound (whole s.older.table n) → items ≡ n.atoms → j < length items → a ≡ get_or items j a
    → Adds a s.older.table t.older.table → ys ≡ take j n.atoms ++ drop (j + 1) n.atoms
    → Moves n s (record n { atoms = ys }) t
settle_moves n s t items ys a j sound same low at adds left = record {
  rest = refl;
  keeps = subst (λ (l : List NumberedAtom). Keeps s.older.table n.atoms t.older.table l) (sym left)
      (settled s.older.table t.older.table n.atoms items a j
      (differ_of (whole s.older.table n) sound) same low at adds);
}

-- ---- one becomes one of the newest

module _ (n : Numbered) (s t : Store) (i : AtomId) (sound : IsSound (whole s.older.table n))
    (table : t.older.table ≡ without i s.older.table) where
  old_differ : AtomsDiffer s.older.table
  old_differ = older_differ n s.older.table sound

  pub brought_moves : (a : NumberedAtom) (ys : List NumberedAtom) → atom_at s.older.table i ≡ Some a
      → ys ≡ n.atoms ++ a ∷ [] → Moves n s (record n { atoms = ys }) t
  brought_moves a ys found more =
      let one = brought s.older.table n.atoms i a (differ_of (whole s.older.table n) sound) found in
      let two = subst (λ (l : List NumberedAtom). Keeps s.older.table n.atoms l (n.atoms ++ a ∷ []))
      (sym table) one in
      record {
        rest = refl;
        keeps = subst (λ (l : List NumberedAtom). Keeps s.older.table n.atoms t.older.table l)
            (sym more) two;
      }

  pub brought_gone : atom_at t.older.table i ≡ None
  brought_gone =
      ap (λ (l : List NumberedAtom). atom_at l i) table ∙ gone i s.older.table old_differ

  pub brought_fewer : (j : AtomId) → atom_at s.older.table j ≡ None
      → atom_at t.older.table j ≡ None
  brought_fewer j none =
      ap (λ (l : List NumberedAtom). atom_at l j) table ∙ fewer i s.older.table old_differ j none

  pub brought_stored : (ys : List NumberedAtom) → t.waiting ≡ s.waiting
      → KeepsKeys t.older.keys.keys s.older.keys.keys → KeepsAskingBut i s.asking t.asking
      → IsStored n s → IsStored (record n { atoms = ys }) t
  brought_stored ys waiting no_more asking h = record {
    watched = subst (λ (w : Waiting). AreWatched no_number (standing n.places) t.older.keys.keys w
        n.rules) (sym waiting) (watched_fewer (standing n.places) s.older.keys.keys
        t.older.keys.keys s.waiting n.rules no_more h.watched);
    asked = asked_same n.version (standing n.places) t.asking (without i s.older.table)
        t.older.table table
        (each_left (IsAsked n.version (standing n.places) t.asking) i s.older.table old_differ
        (λ b at other. asked_but n.version (standing n.places) i s.asking t.asking asking b other
        (h.asked b at)));
  }

-- what is found by a number has it
pub asking_but_here : (i j : AtomId) (old new : Asking) → j ≡ i → KeepsAskingBut j old new
    → KeepsAskingBut i old new
asking_but_here i j old new e h = subst (λ (x : AtomId). KeepsAskingBut x old new) e h

-- one more is gone
pub gone_more : (old new : List NumberedAtom) (items : List AtomId) (j : ℕ) (i : AtomId)
    → j < length items → i ≡ get_or items j i
    → ((x : AtomId) → atom_at old x ≡ None → atom_at new x ≡ None)
    → Each (λ x. atom_at old x ≡ None) (take j items) → atom_at new i ≡ None
    → Each (λ x. atom_at new x ≡ None) (take (j + 1) items)
gone_more old new items j i low is less done one =
    let longer : take (j + 1) items ≡ take j items ++ i ∷ [] =
    rw add-one (take-suc items j i low ∙ ap (λ (y : AtomId). take j items ++ y ∷ []) (sym is)) in
    subst (λ (is : List AtomId). Each (λ x. atom_at new x ≡ None) is) (sym longer)
    (Each-append (λ (x : AtomId). atom_at new x ≡ None) (take j items) (i ∷ [])
    (Each-weaker (λ (x : AtomId). atom_at old x ≡ None) (λ (x : AtomId). atom_at new x ≡ None) less
    (take j items) done) (one, tt))

pub gone_still : {A E : Type 0} (s t : Store) (took : List AtomId) (r : Result A E)
    → t.older ≡ s.older → AreGone s took → OnOk r (AreGone t took)
gone_still s t took r same h = go r
  where
    there : AreGone t took
    there = subst (λ (o : Older). Each (λ (i : AtomId). atom_at o.table i ≡ None) took) (sym same) h

    go : {A E : Type 0} (q : Result A E) → OnOk q (AreGone t took)
    go (Ok x) = there
    go (Err e) = tt
