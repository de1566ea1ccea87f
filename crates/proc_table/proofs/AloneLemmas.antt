-- What the handler's own calls leave, while no pass is lent.
use Rattle.std.proofs.Common.{◌≡◌, ◌≢◌, ℕ, ◌+◌, List, [], ◌∷◌, ◌++◌, ap, sym, subst, ◌∙◌, append-nil, None}
use Rattle.std.specs.List.{Contains}
use mathlib.Core.List.{IsPrefix}
use native.Mathlib.Decide.{ℕ_discrete}
use mathlib.Core.Logic.{dite}
use Rattle.proc_table.specs.declared.view.View.{View}
use Rattle.proc_history.specs.declared.value.Outcome.{Outcome}
use Rattle.proc_table.specs.declared.pass.Tried.{Tried}
use Rattle.proc_table.specs.declared.pass.Tried.TheVariants.{Done, Crashed, Ended, Down}
use Rattle.proc_history.specs.Events.{HistoryEntry, own, entry}
use Rattle.proc_history.specs.Events.Event.{call}
use Rattle.proc_history.specs.Histories.{replay}
use Rattle.proc_history.specs.Values.{up_in}
use Rattle.proc_table.specs.Parts.{Part, part_of, longer}
use Rattle.proc_table.specs.Views.{seen, all_but}
use Rattle.proc_table.specs.Calls.{Elsewhere, Looked, Called, Answers, Made, Joined}
use Rattle.proc_table.specs.Waits.{IsAnswer, AnswersAtLast}
use Rattle.proc_table.specs.Alone.{ByOnePass, CalledAlone, DownAlone, AnswersAlone, AloneSeesAll}
use Rattle.proc_history.proofs.Entries.{own-append, own_between}
use Rattle.proc_history.proofs.Prefixes.{prefix_self, prefix_more, prefix_trans, prefix_both}
use Rattle.proc_table.proofs.JoinLemmas.{is_longer}
use Rattle.proc_table.proofs.LentLemmas.{only_lent, none_left, nothing_behind}
use Rattle.proc_table.proofs.TwoClients.{grown_at_last}
use Rattle.proc_table.proofs.WaitLemmas.{since}

pub longer_of : (xs ys : List HistoryEntry) → IsPrefix xs ys → longer xs ys ≡ ys
longer_of xs ys begins =
    let l = is_longer xs ys ys begins (prefix_self ys) in
    prefix_both (longer xs ys) ys l.begins l.second

-- A pass that the handler v lent alone, and so has the view one. Before its call the pass has seen as much.
record LentAlone (v one pass : View) : Type 0 where
  pub handler : one.number ≡ 0
  pub same : one.number ≡ v.number
  pub count : one.count ≡ v.count + 1
  pub lent : one.lent ≡ (v.count + 1) ∷ []
  pub parts : one.parts ≡ v.parts
  pub found : one.found ≡ v.found
  pub number : pass.number ≡ v.count + 1
  pub knew : (q : ℕ) → seen pass q ≡ seen v q

lent_alone : (v one new pass : View) → v.lent ≡ [] → Made v one new → pass.number ≡ new.number → pass.parts ≡ new.parts → LentAlone v one pass
lent_alone v one new pass none made number parts = record {
  handler = made.handler.0 ∙ made.maker;
  same = made.handler.0;
  count = made.count;
  lent = made.lent ∙ (ap (λ n. n ∷ v.lent) made.count ∙ ap (λ ns. (v.count + 1) ∷ ns) none);
  parts = made.handler.1;
  found = made.handler.2;
  number = number ∙ (made.number ∙ made.count);
  knew = λ q. ap (λ (ps : List Part). (part_of ps q).seen) parts ∙ made.seen_is q;
}

-- where it is taken back, none is lent
none_lent_then : (v one pass w both : View) → LentAlone v one pass → w.number ≡ pass.number → Joined one w both → both.lent ≡ []
none_lent_then v one pass w both l same j =
    j.lent ∙ (ap (λ n. all_but n one.lent) (same ∙ l.number) ∙ (ap (all_but (v.count + 1)) l.lent ∙ none_left (v.count + 1)))

-- it was taken back after a call at one slot
by_one_pass : (p : ℕ) (v one pass w both : View) → LentAlone v one pass → Elsewhere p pass w → Joined one w both → ByOnePass p v both
by_one_pass p v one pass w both l rest j = record {
  number = j.number ∙ l.same;
  count = j.count ∙ l.count;
  lent = none_lent_then v one pass w both l rest.number j;
  found = j.found ∙ l.found;
  others = λ q ne.
      let here : seen one q ≡ seen v q = ap (λ (ps : List Part). (part_of ps q).seen) l.parts in
      let there : seen w q ≡ seen v q = ap (λ (x : Part). x.seen) (rest.others q ne) ∙ l.knew q in
      j.seen_is q ∙ (ap (λ h. longer h (seen w q)) here ∙ (ap (longer (seen v q)) there ∙ longer_of (seen v q) (seen v q) (prefix_self (seen v q))));
  mine_is = λ q. j.mine_is q ∙ ap (λ (ps : List Part). (part_of ps q).mine) l.parts;
  out_is = λ q. j.out_is q ∙ ap (λ (ps : List Part). (part_of ps q).out) l.parts;
  legal = j.legal;
}

-- the handler has then seen all that the pass has
all_seen : (p : ℕ) (v one pass w both : View) (between es : List HistoryEntry) → LentAlone v one pass → Joined one w both
    → seen w p ≡ (seen pass p ++ between) ++ es → seen both p ≡ (seen v p ++ between) ++ es
all_seen p v one pass w both between es l j is =
    let g = seen v p in
    let k = g ++ between in
    let here : seen one p ≡ g = ap (λ (ps : List Part). (part_of ps p).seen) l.parts in
    let there : seen w p ≡ k ++ es = is ∙ ap (λ h. (h ++ between) ++ es) (l.knew p) in
    let begins : IsPrefix g (k ++ es) = prefix_trans g k (k ++ es) (prefix_more g between) (prefix_more k es) in
    j.seen_is p ∙ (ap (λ h. longer h (seen w p)) here ∙ (ap (longer g) there ∙ longer_of g (k ++ es) begins))

-- who isn't lent has the entries that the handler had seen, and no more
settled_then : (p : ℕ) (v one pass w both : View) → LentAlone v one pass → Joined one w both
    → (n : ℕ) → n ≢ v.count + 1 → own n (seen both p) ≡ own n (seen v p)
settled_then p v one pass w both l j n ne =
    let strange : ¬ Contains one.lent n = λ c. ne (sym (only_lent (v.count + 1) n (subst (λ ns. Contains ns n) l.lent c))) in
    j.settled l.handler p n strange ∙ ap (λ (ps : List Part). own n (part_of ps p).seen) l.parts

-- between what the handler had seen and the call nothing stands: no entry of the pass, and none of another
nothing_between : (p : ℕ) (v one pass w both : View) (between es : List HistoryEntry) → LentAlone v one pass → Joined one w both
    → own pass.number between ≡ [] → seen both p ≡ (seen v p ++ between) ++ es → between ≡ []
nothing_between p v one pass w both between es l j strangers all =
    nothing_behind g between (λ n. dite (ℕ_discrete n (v.count + 1)) (of_the_pass n) (of_another n))
  where
    g : List HistoryEntry
    g = seen v p

    of_the_pass : (n : ℕ) → n ≡ v.count + 1 → own n (g ++ between) ≡ own n g
    of_the_pass n e =
        let none : own n between ≡ [] = ap (λ m. own m between) (e ∙ sym l.number) ∙ strangers in
        own-append n g between ∙ (ap (λ h. own n g ++ h) none ∙ append-nil (own n g))

    of_another : (n : ℕ) → n ≢ v.count + 1 → own n (g ++ between) ≡ own n g
    of_another n ne =
        let same : own n ((g ++ between) ++ es) ≡ own n g = sym (ap (own n) all) ∙ settled_then p v one pass w both l j n ne in
        own_between n g (g ++ between) ((g ++ between) ++ es) (prefix_more g between) (prefix_more (g ++ between) es) (sym same) ∙ same

-- What the handler has seen then: what it had seen, and the entries of the call right after.
record SeenAlone (p : ℕ) (v both : View) (between es : List HistoryEntry) : Type 0 where
  pub nothing : between ≡ []
  pub seen_is : seen both p ≡ seen v p ++ es

seen_alone : (p : ℕ) (v one pass w both : View) (between es : List HistoryEntry) → LentAlone v one pass → Joined one w both
    → own pass.number between ≡ [] → seen w p ≡ (seen pass p ++ between) ++ es → SeenAlone p v both between es
seen_alone p v one pass w both between es l j strangers is =
    let all = all_seen p v one pass w both between es l j is in
    let none = nothing_between p v one pass w both between es l j strangers all in
    record {
      nothing = none;
      seen_is = all ∙ ap (λ h. h ++ es) (ap (λ h. seen v p ++ h) none ∙ append-nil (seen v p));
    }

called_alone : (p round input : ℕ) (o : Outcome) (v one pass w both : View) → LentAlone v one pass → Joined one w both → Called p round input o pass w → CalledAlone p round input o v both
called_alone p round input o v one pass w both l j c =
    let s = seen_alone p v one pass w both c.between (entry pass.number (call input o) ∷ []) l j c.strangers c.seen_is in
    let known : seen pass p ++ c.between ≡ seen v p = ap (λ h. seen pass p ++ h) s.nothing ∙ (append-nil (seen pass p) ∙ l.knew p) in
    record {
      up = (c.up.0, ap (λ h. up_in round (replay h)) (sym known) ∙ c.up.1, c.up.2);
      seen_is = s.seen_is ∙ ap (λ n. seen v p ++ entry n (call input o) ∷ []) l.number;
      rest = by_one_pass p v one pass w both l c.rest j;
    }

down_alone : (p round : ℕ) (v one pass w both : View) → LentAlone v one pass → Joined one w both → Looked p pass w → up_in round (replay (seen w p)) ≡ None → DownAlone p round v both
down_alone p round v one pass w both l j c down =
    let s = seen_alone p v one pass w both c.between [] l j c.strangers (c.seen_is ∙ sym (append-nil (seen pass p ++ c.between))) in
    let known : seen w p ≡ seen v p = c.seen_is ∙ (ap (λ h. seen pass p ++ h) s.nothing ∙ (append-nil (seen pass p) ∙ l.knew p)) in
    record {
      down = ap (λ h. up_in round (replay h)) (sym known) ∙ down;
      seen_is = s.seen_is ∙ append-nil (seen v p);
      rest = by_one_pass p v one pass w both l c.rest j;
    }

answers_alone : (p round input : ℕ) (v one pass w both : View) (t : Tried) → LentAlone v one pass → Joined one w both → IsAnswer t → Answers p round input pass t w → AnswersAlone p round input v t both
answers_alone p round input v one pass w both (Done r) l j i a = called_alone p round input _ v one pass w both l j a
answers_alone p round input v one pass w both Crashed l j i a = called_alone p round input _ v one pass w both l j a
answers_alone p round input v one pass w both (Ended r) l j i a = called_alone p round input _ v one pass w both l j a
answers_alone p round input v one pass w both Down l j i a = down_alone p round v one pass w both l j a.0 a.1
answers_alone p round input v one pass w both t l j i a = absurd i

-- a call by a pass that was made for it and taken back
pub record AloneMade (p round input : ℕ) (v : View) (t : Tried) (both : View) : Type 0 where
  pub answer : AnswersAlone p round input v t both
  pub lent : both.lent ≡ []

pub alone_made : (p round input : ℕ) (v one new w both : View) (t : Tried) → v.lent ≡ [] → Made v one new → AnswersAtLast p round input new t w → Joined one w both
    → AloneMade p round input v t both
alone_made p round input v one new w both t none made a j =
    let number : a.before.number ≡ new.number = ap (λ (z : View). z.number) a.waited.is in
    let parts : a.before.parts ≡ new.parts = ap (λ (z : View). z.parts) a.waited.is in
    let l = lent_alone v one new a.before none made number parts in
    record {
      answer = answers_alone p round input v one a.before w both t l j a.is_answer a.answers;
      lent = none_lent_then v one a.before w both l ((grown_at_last p round input new t w a).number ∙ sym number) j;
    }

pub alone_sees_all : AloneSeesAll
alone_sees_all p v h w at none =
    let s = since p v h w at in
    let known : seen w p ≡ seen v p = s.seen_is ∙ (ap (λ g. seen v p ++ g) (s.alone none) ∙ append-nil (seen v p)) in
    (known, s.value ∙ ap replay known)
