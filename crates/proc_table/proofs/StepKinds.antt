-- Each kind of step keeps agreement.
use Rattle.std.proofs.Common.{◌≡◌, ◌≢◌, ℕ, ◌<◌, Bool, true, false, List, [], ◌∷◌, ◌++◌, set, slice_index, refl, ap, sym, subst, ◌∙◌, inl, arith, true≢false, append-nil, None}
use Rattle.std.proofs.lemmas.List.{set-get_or}
use mathlib.Core.Option.{Option, some, none}
use mathlib.Core.List.{IsPrefix}
use Rattle.proc_table.specs.declared.view.View.{View}
use Rattle.proc_history.specs.declared.value.Value.{Value}
use Rattle.proc_history.specs.Events.{HistoryEntry, own}
use Rattle.proc_table.specs.Parts.{part, part_of}
use Rattle.proc_history.specs.Histories.{replay, IsLegal}
use Rattle.proc_table.specs.Views.{seen, mine, is_out, word_of, with_part, found_more, no_guest}
use Rattle.proc_table.specs.Agrees.{slots, States, state, Sits, Agrees}
use Rattle.proc_history.specs.Events.{MayAdd}
use Rattle.proc_table.specs.Moves.{Takes, Gives, Misses, Lays, Lifts, Learns}
use Rattle.proc_history.proofs.Prefixes.{prefix_self, prefix_more}
use Rattle.proc_history.proofs.Entries.{own-append, own_all_by, own_none_by, added_by}
use Rattle.proc_table.proofs.Turns.{still_lends}
use Rattle.proc_table.proofs.SlotTurns.{word_not_zero, history_is, turns_at, turns_nowhere}

-- the history's own entries with those added
own_added : (n : ℕ) (h es : List HistoryEntry) (mine : List HistoryEntry) → MayAdd n es → own n h ≡ mine → own n (h ++ es) ≡ mine ++ es
own_added n h es mine may is = own-append n h es ∙ (ap (λ w. w ++ own n es) is ∙ ap (λ w. mine ++ w) (own_all_by n es (added_by n es may)))

strangers_added : (n z : ℕ) (h es : List HistoryEntry) → MayAdd n es → z ≢ n → own z (h ++ es) ≡ own z h
strangers_added n z h es may ne = own-append z h es ∙ (ap (λ w. own z h ++ w) (own_none_by z n es (added_by n es may) ne) ∙ append-nil (own z h))

pub takes_agree : (s t : States) → Takes s t → Agrees s → Agrees t
takes_agree s t m a =
    let h = a.history m.p in
    let f = (a.each m.p).parts m.i m.v m.sits in
    let same : h ≡ m.h = history_is s a m.p m.h m.all in
    let x = part m.h ((part_of m.v.parts m.p).mine) true false in
    subst Agrees (sym m.is) (turns_at s m.i m.v a m.p m.h x (m.v.found ++ (m.p, 0) ∷ []) (word_of m.v.number) none m.sits m.alone m.inside refl (record {
      longer = subst (λ g. IsPrefix h g) same (prefix_self h);
      legal = subst IsLegal same (a.each m.p).legal;
      strangers = λ z ne. ap (own z) (sym same);
      fits = record {
        begins = prefix_self m.h;
        own_seen = ap (own m.v.number) (sym same) ∙ f.own_all;
        own_all = ap (own m.v.number) (sym same) ∙ f.own_all;
        all_where_out = λ o. refl;
        word_where_out = λ o. refl;
        laid = λ l. absurd (true≢false (sym l));
        held = λ g is. absurd (cc);
        met_first = λ g is. absurd (cc);
        met_second = λ g is. absurd (cc);
        met_own = λ g is. absurd (cc);
        met_settled = λ g is. absurd (cc);
      };
      others = λ j u ne su ou. absurd (word_not_zero u.number (sym (((a.each m.p).parts j u su).word_where_out ou) ∙ m.free));
      home = λ inside zero. absurd (word_not_zero m.v.number zero);
      taken = λ busy. inl refl;
      whole = inl refl;
    }))

pub gives_agree : (s t : States) → Gives s t → Agrees s → Agrees t
gives_agree s t m a =
    let h = a.history m.p in
    let here = a.each m.p in
    let f = here.parts m.i m.v m.sits in
    let all : seen m.v m.p ≡ h = f.all_where_out m.out in
    let k = seen m.v m.p ++ m.entries in
    let x = part k ((part_of m.v.parts m.p).mine ++ m.entries) false false in
    subst Agrees (sym m.is) (turns_at s m.i m.v a m.p k x m.v.found 0 (some (replay k)) m.sits m.alone m.inside refl (record {
      longer = subst (λ g. IsPrefix g k) all (prefix_more (seen m.v m.p) m.entries);
      legal = m.legal;
      strangers = λ z ne. strangers_added m.v.number z (seen m.v m.p) m.entries m.may ne ∙ ap (own z) all;
      fits = record {
        begins = prefix_self k;
        own_seen = own_added m.v.number (seen m.v m.p) m.entries _ m.may f.own_seen;
        own_all = own_added m.v.number (seen m.v m.p) m.entries _ m.may f.own_seen;
        all_where_out = λ o. absurd (true≢false (sym o));
        word_where_out = λ o. absurd (true≢false (sym o));
        laid = λ l. absurd (true≢false (sym l));
        held = λ g is. absurd (cc);
        met_first = λ g is. absurd (cc);
        met_second = λ g is. absurd (cc);
        met_own = λ g is. absurd (cc);
        met_settled = λ g is. absurd (cc);
      };
      others = λ j u ne su ou. absurd (ne (here.alone j m.i u m.v su m.sits ou m.out));
      home = λ inside zero. refl;
      taken = λ busy. absurd (busy refl);
      whole = inl refl;
    }))

pub misses_agree : (s t : States) → Misses s t → Agrees s → Agrees t
misses_agree s t m a =
    let f = a.seats m.i m.v m.sits in
    subst Agrees (sym (m.is ∙ ap (λ ws. state ws s.homes (set s.views m.i (found_more m.v m.p (slice_index s.words m.p)))) (set-get_or s.words m.p 0)))
    (turns_nowhere s m.i m.v (found_more m.v m.p (slice_index s.words m.p)) a a.passes m.sits m.sits.1 refl refl (λ g is. is) f.count (omega arith) (inl refl)
    (still_lends s m.i m.v (found_more m.v m.p (slice_index s.words m.p)) a m.sits refl refl refl))

pub learns_agree : (s t : States) → Learns s t → Agrees s → Agrees t
learns_agree s t m a =
    let f = a.seats m.i m.v m.sits in
    subst Agrees (sym (m.is ∙ ap (λ ws. state ws s.homes (set s.views m.i (no_guest m.v))) (set-get_or s.words m.p 0)))
    (turns_nowhere s m.i m.v (no_guest m.v) a a.passes m.sits m.sits.1 refl refl (λ g is. absurd (cc)) f.count (omega arith) (inl refl)
    (still_lends s m.i m.v (no_guest m.v) a m.sits refl refl refl))

-- the handler's part stays, and the home is another
home_agrees : (s : States) (a : Agrees s) (i p : ℕ) (v : View) (laid : Bool) (m : Option Value)
    → Sits s i v → v.guest ≡ None → p < slots → is_out v p ≡ true → (laid ≡ true → (y : Value) × (m ≡ some y))
    → Agrees (state (set s.words p (slice_index s.words p)) (set s.homes p m) (set s.views i (with_part v p (part (seen v p) (mine v p) true laid))))
home_agrees s a i p v laid m sits alone inside out y =
    let here = a.each p in
    let f = here.parts i v sits in
    let x = part (seen v p) (mine v p) true laid in
    turns_at s i v a p (a.history p) x v.found (slice_index s.words p) m sits alone inside (f.all_where_out out) (record {
      longer = prefix_self (a.history p);
      legal = here.legal;
      strangers = λ z ne. refl;
      fits = record {
        begins = f.begins;
        own_seen = f.own_seen;
        own_all = f.own_all;
        all_where_out = λ o. f.all_where_out out;
        word_where_out = λ o. f.word_where_out out;
        laid = λ l. (refl, ((y l).0, ap some (y l).1));
        held = λ g is. absurd (cc);
        met_first = λ g is. absurd (cc);
        met_second = λ g is. absurd (cc);
        met_own = λ g is. absurd (cc);
        met_settled = λ g is. absurd (cc);
      };
      others = λ j u ne su ou. absurd (ne (here.alone j i u v su sits ou out));
      home = λ inside zero. absurd (word_not_zero v.number (sym (f.word_where_out out) ∙ zero));
      taken = λ busy. inl refl;
      whole = inl (f.all_where_out out);
    })

pub lays_agree : (s t : States) → Lays s t → Agrees s → Agrees t
lays_agree s t m a = subst Agrees (sym m.is) (home_agrees s a m.i m.p m.v true (some m.y) m.sits m.alone m.inside m.out (λ l. (m.y, refl)))

pub lifts_agree : (s t : States) → Lifts s t → Agrees s → Agrees t
lifts_agree s t m a = subst Agrees (sym m.is) (home_agrees s a m.i m.p m.v false none m.sits m.alone m.inside m.out (λ l. absurd (true≢false (sym l))))
