-- Each answer to a log shows what the clerk of demand 3 finds from the entries that are taken by then. For every log with a good sheet. Assumes nothing.
use Rattle.std.specs.Prelude.{Result, Ok, Err}
use Rattle.paper.specs.declared.refusal.Refusal.{Refusal}
use Rattle.desk.specs.Log.{opened_of}
use Rattle.desk.proofs.Opened.{opened_is}
use Prim.Native.Nat.{ℕ, zero, suc, ◌+◌, ◌≤◌}
use mathlib.Core.Bool.{Bool, true, false, true≢false}
use mathlib.Core.Path.{◌≡◌, refl, sym, ap, ap₂, subst, ◌∙◌}
use mathlib.Core.List.{List, [], ◌∷◌, ◌++◌}
use mathlib.Core.Logic.{⊎_elim}
use native.Mathlib.Omega.{arith}
use lib.ListN.{length}
use lib.Seq.{take-append_seam}
use lib.Dec.{eqb}
use borrow.Author.Tests.{eqb-true, eqb-false}
use Rattle.laws.specs.Tests.{pick}
use Rattle.laws.proofs.Tests.{test}
use Rattle.laws.specs.Lists.{All}
use Rattle.paper.specs.Paper.{is_sheet}
use Rattle.paper.specs.declared.Sheet.{Sheet}
use Rattle.paper.specs.declared.Entry.{Entry}
use Rattle.paper.specs.declared.Entry.TheVariants.{Sit, Leave, Hand, Hole, Fold, Check, Call, Wager, Board, Dead, Settle, Void}
use Rattle.pots.specs.Runs.{padded, Alike, none, same}
use Rattle.pots.specs.declared.Pot.{Pot}
use Rattle.blocks.specs.Block.{rest_of, block_of}
use Rattle.text.specs.Line.{number_line}
use Rattle.blocks.specs.Entry.{parsed_of}
use Rattle.text.specs.TableSheet.{sheet_end}
use Rattle.blocks.specs.declared.Block.{Block}
use Rattle.blocks.specs.declared.Block.TheVariants.{Raw, Malformed, Nothing}
use Rattle.table.specs.declared.table.Table.{Table}
use Rattle.table.specs.declared.table.Payout.{Payout as Paid}
use Rattle.table.specs.Settle.{pots_now, back_now, no_payout}
use Rattle.table.specs.Take.{code_of, applied_to, next_of, payout_of, payout_by, fresh_table}
use Rattle.table.specs.State.{with_taken}
use Rattle.table.proofs.Refusals.{codes}
use Rattle.answers.specs.Answer.{joined, pot_bytes, key_pot, key_back, state_bytes, table_bytes}
use Rattle.desk.specs.Desk.{shown_of, payout_shown, judge_parsed, judge_block, judged_of}
use Rattle.history.specs.History.{run, AllTaken, ClerksPots, clerk_back}
use Rattle.history.proofs.BySitting.{clerks_pots_law}
use Rattle.mission.specs.Settled.{settles}
use Rattle.mission.proofs.Settled.{clerks_back}
use Rattle.mission.specs.Blocks.{parsed_adds, block_adds, adds, shown_by, given_from, given_by, given_of}
use Rattle.mission.specs.Allowed.{Allowed}
use Rattle.mission.specs.Does.{Does}
use Rattle.mission.specs.Demands.{amounts_of, shown_pots, clerks_pots, code_of_read, code_of_any, Pays, Right}
use Rattle.mission.proofs.Taken.{taken_allowed, allowed_taken}
use Rattle.mission.proofs.Does.{taken_does}
use Rattle.mission.proofs.Winners.{better_wins}
use Rattle.history.specs.Notebook.{notebook}
use Rattle.history.specs.Turns.{turn_of}
use Rattle.history.proofs.AsNoted.{as_noted}
use Rattle.history.proofs.Codes.{code_as_noted}
use Rattle.history.proofs.Kept.{mark_is}
use Rattle.history.proofs.Moves.{moves}
use Rattle.history.proofs.Reached.{reached_standing}
use Rattle.history.proofs.Turns.{turn_as_noted}
use Rattle.mission.proofs.Payout.{payout_right}
use Rattle.mission.proofs.Reached.{Reaches, taken_next, one_reached, fresh_reached}

-- ---- pots
alike_amounts : {R : ℕ → ℕ → Type 0} {ps qs : List Pot} → Alike R ps qs → amounts_of ps ≡ amounts_of qs
alike_amounts none = refl
alike_amounts (same e r h) = ap₂ (λ (x : ℕ) (xs : List ℕ). x ∷ xs) e (alike_amounts h)

-- the pots that an answer shows are the table's
pots_shown : (n code : ℕ) (t : Table) (p : Paid) → shown_pots (shown_of n code t p) ≡ pots_now t
unfolding shown_of padded
pots_shown n code t p = take-append_seam (pots_now t) _

-- their lines say the amounts
pots_lines : (ps : List Pot) → joined pot_bytes ps ≡ joined (number_line key_pot) (amounts_of ps)
pots_lines [] = refl
pots_lines (p ∷ ps) = ap (λ (x : List ℕ). number_line key_pot p.amount ++ x) (pots_lines ps)

module _ (sheet : Sheet) (ok : is_sheet sheet ≡ true) (es : List Entry) (a : AllTaken sheet es) where
  pots_told : amounts_of (pots_now (run sheet es)) ≡ amounts_of (clerks_pots sheet es)
  unfolding ClerksPots
  pots_told = alike_amounts (clerks_pots_law sheet ok es a)

  -- what is shown of the table that these entries lead to
  module _ (n code : ℕ) (t : Table) (p : Paid) (e : t ≡ run sheet es) where
    amounts-told : amounts_of (shown_pots (shown_of n code t p)) ≡ amounts_of (clerks_pots sheet es)
    amounts-told = ap amounts_of (pots_shown n code t p) ∙ ap (λ (u : Table). amounts_of (pots_now u)) e ∙ pots_told

    back-told : back_now t ≡ clerk_back sheet es
    back-told = ap back_now e ∙ clerks_back sheet ok es a

    lines-told : table_bytes (shown_of n code t p)
        ≡ state_bytes n code t.play.turn t.play.mark ++ joined (number_line key_pot) (amounts_of (clerks_pots sheet es)) ++ number_line key_back (clerk_back sheet es)
    unfolding shown_of table_bytes
    lines-told =
        ap (λ (x : List ℕ). state_bytes n code t.play.turn t.play.mark ++ x ++ number_line key_back (back_now t)) (pots_lines (shown_pots (shown_of n code t p)) ∙ ap (joined (number_line key_pot)) amounts-told)
        ∙ ap (λ (b : ℕ). state_bytes n code t.play.turn t.play.mark ++ joined (number_line key_pot) (amounts_of (clerks_pots sheet es)) ++ number_line key_back b) back-told

    turn-told : t.play.turn ≡ turn_of sheet es
    turn-told = ap (λ (u : Table). u.play.turn) e ∙ turn_as_noted sheet ok es a

    mark-told : t.play.mark ≡ (notebook sheet es).play.mark
    mark-told = ap (λ (u : Table). u.play.mark) e ∙ mark_is (notebook sheet es) (run sheet es) (as_noted sheet ok es a)

-- ---- a settle alone pays

by_settled : (t : Table) (e : Entry) → (payout_by t e).settled ≡ true → e ≡ Settle
by_settled t (Sit x a) h = absurd (true≢false (sym h))
by_settled t (Leave x) h = absurd (true≢false (sym h))
by_settled t (Hand x) h = absurd (true≢false (sym h))
by_settled t (Hole x a b) h = absurd (true≢false (sym h))
by_settled t (Fold x) h = absurd (true≢false (sym h))
by_settled t (Check x) h = absurd (true≢false (sym h))
by_settled t (Call x) h = absurd (true≢false (sym h))
by_settled t (Wager x a) h = absurd (true≢false (sym h))
by_settled t (Board k) h = absurd (true≢false (sym h))
by_settled t (Dead x) h = absurd (true≢false (sym h))
by_settled t Settle h = refl
by_settled t Void h = absurd (true≢false (sym h))

paid_settled : (t : Table) (n : ℕ) (e : Entry) → (payout_of t n e).settled ≡ true → (e ≡ Settle) × (code_of t n e ≡ 0)
unfolding payout_of
paid_settled t n e h = go (eqb (code_of t n e) 0) refl h
  where
    go : (b : Bool) → eqb (code_of t n e) 0 ≡ b → (pick b (payout_by t e) no_payout).settled ≡ true → (e ≡ Settle) × (code_of t n e ≡ 0)
    go true q l = (by_settled t e l, eqb-true (code_of t n e) 0 q)
    go false q l = absurd (true≢false (sym l))

-- ---- block after block

module _ (sheet : Sheet) (ok : is_sheet sheet ≡ true) (es : List Entry) (had : AllTaken sheet es) where
  abbrev t : Table
  t = run sheet es

  -- an answer that takes nothing: it is refused, and shows the table as it was
  module _ (block : Block) (n code : ℕ) (most : code ≤ 10) (some : code ≡ 0 → ⊥) (by : code ≡ code_of_any sheet es block)
      (never : (m kind seat a b : ℕ) (e : Entry) → block ≡ Raw m kind seat a b → parsed_of kind seat a b ≡ Ok e → Allowed t m e → code ≡ 0) where
    refused-right : Right sheet (record { shown = shown_of n code t no_payout; block = block; had = es; taken = es })
    unfolding shown_of
    refused-right =
        record {
          taken = had;
          one = record { number = most; refused = λ q. refl };
          two = record {
            code = by;
            done = λ z. absurd (some z);
            legal = never;
            turn = turn-told sheet ok es had n code t no_payout refl;
            mark = mark-told sheet ok es had n code t no_payout refl;
            hands = λ h. absurd (true≢false (sym h));
          };
          three = record {
            amounts = amounts-told sheet ok es had n code t no_payout refl;
            back = back-told sheet ok es had n code t no_payout refl;
            lines = lines-told sheet ok es had n code t no_payout refl;
            moves = λ e q. moves sheet es e;
            settled = λ h. absurd (true≢false (sym h));
          };
        }

  -- an answer that takes an entry
  module _ (block : Block) (n : ℕ) (e : Entry) (zero_is : code_of t n e ≡ 0) (by : 0 ≡ code_of_any sheet es block) where
    next-is : n ≡ length es + 1
    next-is = taken_next sheet n e es had zero_is

    all-taken : AllTaken sheet (e ∷ es)
    all-taken = (subst (λ (k : ℕ). code_of t k e ≡ 0) next-is zero_is, had)

    next-run : next_of t n e ≡ run sheet (e ∷ es)
    unfolding run
    next-run = ap (λ (k : ℕ). next_of (run sheet es) k e) next-is

    paid-is : (payout_of t n e).settled ≡ true → (e ≡ Settle) × (payout_shown (payout_of t n e) ≡ payout_shown (settles sheet es))
    paid-is h =
        let q = paid_settled t n e h in
        (q.0, ap (λ (k : ℕ). payout_shown (payout_of t k e)) next-is ∙ ap (λ (x : Entry). payout_shown (payout_of t (length es + 1) x)) q.0)

    taken-right : Right sheet (record { shown = shown_of n 0 (next_of t n e) (payout_of t n e); block = block; had = es; taken = e ∷ es })
    unfolding shown_of
    taken-right =
        record {
          taken = all-taken;
          one = record { number = omega arith; refused = λ q. absurd (q refl) };
          two = record {
            code = by;
            done = λ z. record {
              entry = e;
              adds = refl;
              allowed = taken_allowed t n e zero_is;
              does = subst (Does t e) next-run (taken_does t n e (reached_standing sheet ok es had) zero_is);
            };
            legal = λ m kind seat a b x q r w. refl;
            turn = turn-told sheet ok (e ∷ es) all-taken n 0 (next_of t n e) (payout_of t n e) next-run;
            mark = mark-told sheet ok (e ∷ es) all-taken n 0 (next_of t n e) (payout_of t n e) next-run;
            hands = λ h. better_wins sheet ok es (subst (λ (x : Entry). AllTaken sheet (x ∷ es)) (paid-is h).0 all-taken);
          };
          three = record {
            amounts = amounts-told sheet ok (e ∷ es) all-taken n 0 (next_of t n e) (payout_of t n e) next-run;
            back = back-told sheet ok (e ∷ es) all-taken n 0 (next_of t n e) (payout_of t n e) next-run;
            lines = lines-told sheet ok (e ∷ es) all-taken n 0 (next_of t n e) (payout_of t n e) next-run;
            moves = λ x q. moves sheet es x;
            settled = λ h.
                let w = paid-is h in
                record {
                  settle = ap (λ (x : Entry). x ∷ es) w.0;
                  pays = subst (Pays sheet es) (sym w.1) (payout_right sheet ok es (subst (λ (x : Entry). AllTaken sheet (x ∷ es)) w.0 all-taken));
                };
          };
        }

code_most : (t : Table) (n : ℕ) (e : Entry) → code_of t n e ≤ 10
code_most t n e = ⊎_elim (λ (z : code_of t n e ≡ 0). omega arith) (λ (p : (2 ≤ code_of t n e) × (code_of t n e ≤ 10)). p.1) (codes t n e)

-- what each block gets
module _ (sheet : Sheet) (ok : is_sheet sheet ≡ true) where
  -- an entry that is read is taken where its code is 0
  read_right : (n kind seat a b : ℕ) (e : Entry) (es : List Entry) → AllTaken sheet es → parsed_of kind seat a b ≡ Ok e
      → Right sheet (record { shown = shown_of n (code_of (run sheet es) n e) (next_of (run sheet es) n e) (payout_of (run sheet es) n e); block = Raw n kind seat a b; had = es; taken = pick (eqb (code_of (run sheet es) n e) 0) (e ∷ es) es })
  unfolding next_of payout_of
  read_right n kind seat a b e es h r =
      ⊎_elim
      (λ (q : eqb (code_of (run sheet es) n e) 0 ≡ true).
      let z = eqb-true (code_of (run sheet es) n e) 0 q in
      subst (λ (c : ℕ). Right sheet (record { shown = shown_of n c (pick (eqb c 0) (with_taken (applied_to (run sheet es) e) n) (run sheet es)) (pick (eqb c 0) (payout_by (run sheet es) e) no_payout); block = Raw n kind seat a b; had = es; taken = pick (eqb c 0) (e ∷ es) es })) (sym z)
      (subst (λ (c : ℕ). Right sheet (record { shown = shown_of n 0 (pick (eqb c 0) (with_taken (applied_to (run sheet es) e) n) (run sheet es)) (pick (eqb c 0) (payout_by (run sheet es) e) no_payout); block = Raw n kind seat a b; had = es; taken = e ∷ es })) z
      (taken-right sheet ok es h (Raw n kind seat a b) n e z (sym z ∙ coded))))
      (λ (q : eqb (code_of (run sheet es) n e) 0 ≡ false).
      let d = eqb-false (code_of (run sheet es) n e) 0 q in
      subst (λ (x : Bool). Right sheet (record { shown = shown_of n (code_of (run sheet es) n e) (pick x (with_taken (applied_to (run sheet es) e) n) (run sheet es)) (pick x (payout_by (run sheet es) e) no_payout); block = Raw n kind seat a b; had = es; taken = pick x (e ∷ es) es })) (sym q)
      (refused-right sheet ok es h (Raw n kind seat a b) n (code_of (run sheet es) n e) (code_most (run sheet es) n e) d coded
      (λ m kind' seat' a' b' x p s w. same_block p s w)))
      (test (eqb (code_of (run sheet es) n e) 0))
    where
      coded : code_of (run sheet es) n e ≡ code_of_read sheet es n (parsed_of kind seat a b)
      coded = code_as_noted sheet ok es h n e ∙ ap (code_of_read sheet es n) (sym r)

      same_block : {m kind' seat' a' b' : ℕ} {x : Entry} → Raw n kind seat a b ≡ Raw m kind' seat' a' b' → parsed_of kind' seat' a' b' ≡ Ok x → Allowed (run sheet es) m x → code_of (run sheet es) n e ≡ 0
      same_block {m} {kind'} {seat'} {a'} {b'} {x} p s w =
          coded ∙ ap (code_of_any sheet es) p ∙ ap (code_of_read sheet es m) s ∙ sym (code_as_noted sheet ok es h m x) ∙ allowed_taken (run sheet es) m x w

  parsed_right : (n kind seat a b : ℕ) (p : Result Entry Refusal) (es : List Entry) → AllTaken sheet es → parsed_of kind seat a b ≡ p
      → Right sheet (record { shown = shown_by (judge_parsed (run sheet es) n p); block = Raw n kind seat a b; had = es; taken = parsed_adds (run sheet es) n p es })
  parsed_right n kind seat a b (Ok e) es h r = read_right n kind seat a b e es h r
  parsed_right n kind seat a b (Err why) es h r =
      refused-right sheet ok es h (Raw n kind seat a b) n 2 (omega arith) (λ z. omega arith) (ap (code_of_read sheet es n) (sym r))
      (λ m kind' seat' a' b' x p s w. absurd (unread p s))
    where
      unread : {m kind' seat' a' b' : ℕ} {x : Entry} → Raw n kind seat a b ≡ Raw m kind' seat' a' b' → parsed_of kind' seat' a' b' ≡ Ok x → ⊥
      unread {m} {kind'} {seat'} {a'} {b'} {x} p s = true≢false (sym (ap isRead s) ∙ sym (ap readBlock p) ∙ ap isRead r)
        where
          isRead : Result Entry Refusal → Bool
          isRead (Ok e) = true
          isRead (Err why) = false

          readBlock : Block → Bool
          readBlock (Raw n kind seat a b) = isRead (parsed_of kind seat a b)
          readBlock Malformed = false
          readBlock Nothing = false

  block_right : (b : Block) (es : List Entry) → AllTaken sheet es
      → Right sheet (record { shown = shown_by (judge_block (run sheet es) b); block = b; had = es; taken = block_adds (run sheet es) b es })
  block_right (Raw n k s x y) es a = parsed_right n k s x y (parsed_of k s x y) es a refl
  block_right Malformed es a = refused-right sheet ok es a Malformed 0 1 (omega arith) (λ z. omega arith) refl (λ m k s x y e p r w. absurd (not-raw p))
    where
      isRaw : Block → Bool
      isRaw (Raw n kind seat a b) = true
      isRaw Malformed = false
      isRaw Nothing = false

      not-raw : {m k s x y : ℕ} → Malformed ≡ Raw m k s x y → ⊥
      not-raw p = true≢false (sym (ap isRaw p))
  block_right Nothing es a = refused-right sheet ok es a Nothing 0 1 (omega arith) (λ z. omega arith) refl (λ m k s x y e p r w. absurd (not-raw p))
    where
      isRaw : Block → Bool
      isRaw (Raw n kind seat a b) = true
      isRaw Malformed = false
      isRaw Nothing = false

      not-raw : {m k s x y : ℕ} → Nothing ≡ Raw m k s x y → ⊥
      not-raw p = true≢false (sym (ap isRaw p))

  pub one_right : (t : Table) (log : List ℕ) (es : List Entry) → Reaches sheet t es
      → Right sheet (record { shown = shown_by (judged_of t log); block = block_of log; had = es; taken = adds t log es })
  unfolding judged_of adds
  one_right t log es h =
      subst (λ (u : Table). Right sheet (record { shown = shown_by (judge_block u (block_of log)); block = block_of log; had = es; taken = block_adds u (block_of log) es })) (sym h.0)
      (block_right (block_of log) es h.1)

  pub all_right : (k : ℕ) (t : Table) (log : List ℕ) (es : List Entry) → Reaches sheet t es → All (Right sheet) (given_from k t log es)
  all_right zero t log es h = tt
  all_right (suc k) t log es h =
      go (eqb (length log) 0) (all_right k (judged_of t log).table (rest_of log) (adds t log es) (one_reached sheet t log es h))
    where
      go : (b : Bool) → All (Right sheet) (given_from k (judged_of t log).table (rest_of log) (adds t log es))
          → All (Right sheet)
          (pick b [] (record { shown = shown_by (judged_of t log); block = block_of log; had = es; taken = adds t log es } ∷ given_from k (judged_of t log).table (rest_of log) (adds t log es)))
      go true r = tt
      go false r = (one_right t log es h, r)

-- each answer to a log is right
pub shown_right : (log : List ℕ) (s : Sheet) → opened_of log ≡ Ok s → All (Right s) (given_of log)
unfolding given_of
shown_right log s e =
    subst (λ (o : Result Sheet Refusal). All (Right s) (given_by o log)) (sym e)
    (all_right s (opened_is log s e) (length log) (fresh_table s) (sheet_end log) [] (fresh_reached s))
