-- Only the reserved words that begin with the first byte can be the word.
use Rattle.lib_base.proofs.Prelude.{refl, rules}
use Rattle.source_language.specs.Tokens.{reserved, sign_of}
use Rattle.source_tokens.proofs.Rows.{kept_words, lexemes_of, first_rows, first_none}
use Rattle.source_tokens.proofs.reserved_at.Statement.{statement}
use Rattle.source_tokens.proofs.reserved_at.Tie as tie

returns : tie.Need-returns-in-97
unfolding kept_words reserved sign_of
returns c =
    let at_match = c.before.before in
    let at_entry_lem = at_match.before.before.before in
    first_rows at_entry_lem.args.text.now at_entry_lem.args.at at_entry_lem.args.n 97 at_entry_lem.requires.1 at_match.in-97.is _ c.spelled.ensures

returns_2 : tie.Need-returns-in-98
unfolding kept_words reserved sign_of
returns_2 c =
    let at_match = c.before.before in
    let at_entry_lem = at_match.before.before.before in
    first_rows at_entry_lem.args.text.now at_entry_lem.args.at at_entry_lem.args.n 98 at_entry_lem.requires.1 at_match.in-98.is _ c.spelled-in-98.ensures

returns_3 : tie.Need-returns-in-101
unfolding kept_words reserved sign_of
returns_3 c =
    let at_match = c.before.before in
    let at_entry_lem = at_match.before.before.before in
    first_rows at_entry_lem.args.text.now at_entry_lem.args.at at_entry_lem.args.n 101 at_entry_lem.requires.1 at_match.in-101.is _ c.spelled-in-101.ensures

returns_4 : tie.Need-returns-in-102
unfolding kept_words reserved sign_of
returns_4 c =
    let at_match = c.before.before in
    let at_entry_lem = at_match.before.before.before in
    first_rows at_entry_lem.args.text.now at_entry_lem.args.at at_entry_lem.args.n 102 at_entry_lem.requires.1 at_match.in-102.is _ c.spelled-in-102.ensures

returns_5 : tie.Need-returns-in-105
unfolding kept_words reserved sign_of
returns_5 c =
    let at_match = c.before.before in
    let at_entry_lem = at_match.before.before.before in
    first_rows at_entry_lem.args.text.now at_entry_lem.args.at at_entry_lem.args.n 105 at_entry_lem.requires.1 at_match.in-105.is _ c.spelled-in-105.ensures

returns_6 : tie.Need-returns-in-108
unfolding kept_words reserved sign_of
returns_6 c =
    let at_match = c.before.before in
    let at_entry_lem = at_match.before.before.before in
    first_rows at_entry_lem.args.text.now at_entry_lem.args.at at_entry_lem.args.n 108 at_entry_lem.requires.1 at_match.in-108.is _ c.spelled-in-108.ensures

returns_7 : tie.Need-returns-in-110
unfolding kept_words reserved sign_of
returns_7 c =
    let at_match = c.before.before in
    let at_entry_lem = at_match.before.before.before in
    first_rows at_entry_lem.args.text.now at_entry_lem.args.at at_entry_lem.args.n 110 at_entry_lem.requires.1 at_match.in-110.is _ c.spelled-in-110.ensures

returns_8 : tie.Need-returns-in-111
unfolding kept_words reserved sign_of
returns_8 c =
    let at_match = c.before.before in
    let at_entry_lem = at_match.before.before.before in
    first_rows at_entry_lem.args.text.now at_entry_lem.args.at at_entry_lem.args.n 111 at_entry_lem.requires.1 at_match.in-111.is _ c.spelled-in-111.ensures

returns_9 : tie.Need-returns-in-112
unfolding kept_words reserved sign_of
returns_9 c =
    let at_match = c.before.before.before.before in
    let at_entry_lem = at_match.before.before.before in
    first_rows at_entry_lem.args.text.now at_entry_lem.args.at at_entry_lem.args.n 112 at_entry_lem.requires.1 at_match.in-112.is _
    (rw c.before.spelled-in-112.ensures at c.spelled-in-112-2.ensures)

returns_10 : tie.Need-returns-in-114
unfolding kept_words reserved sign_of
returns_10 c =
    let at_match = c.before.before.before.before in
    let at_entry_lem = at_match.before.before.before in
    first_rows at_entry_lem.args.text.now at_entry_lem.args.at at_entry_lem.args.n 114 at_entry_lem.requires.1 at_match.in-114.is _
    (rw c.before.spelled-in-114.ensures at c.spelled-in-114-2.ensures)

returns_11 : tie.Need-returns-in-115
unfolding kept_words reserved sign_of
returns_11 c =
    let at_match = c.before.before in
    let at_entry_lem = at_match.before.before.before in
    first_rows at_entry_lem.args.text.now at_entry_lem.args.at at_entry_lem.args.n 115 at_entry_lem.requires.1 at_match.in-115.is _ c.spelled-in-115.ensures

returns_12 : tie.Need-returns-in_default
unfolding reserved lexemes_of
returns_12 c =
    let at_entry_lem = c.before.before.before in
    let upto11 = c.in_default.in_default-own.rest in
    let upto10 = upto11.0 in
    let upto9 = upto10.0 in
    let upto8 = upto9.0 in
    let upto7 = upto8.0 in
    let upto6 = upto7.0 in
    let upto5 = upto6.0 in
    let upto4 = upto5.0 in
    let upto3 = upto4.0 in
    let upto2 = upto3.0 in
    let upto1 = upto2.0 in
    first_none at_entry_lem.args.text.now at_entry_lem.args.at at_entry_lem.args.n _ at_entry_lem.requires.1 refl (
      upto9.1,
      (
        upto3.1,
        (
          upto10.1,
          (
            upto4.1,
            (
              upto9.1,
              (
                upto1.1,
                (
                  upto10.1,
                  (
                    upto11.1,
                    (
                      upto2.1,
                      (
                        upto7.1,
                        (upto8.1, (upto6.1, (upto5.1, tt))),
                      ),
                    ),
                  ),
                ),
              ),
            ),
          ),
        ),
      ),
    )

pub reserved_at_spec : {M : Type 1} → statement M
reserved_at_spec =
    tie.close
    (tie.spec (λ c. search rules) (λ c κs. search rules) (λ c κs. search rules) (λ c κs. search rules) (λ c κs. search rules) (λ c κs. search rules) (λ c κs. search rules) (λ c κs. search rules) (λ c κs. search rules) (λ c κs. search rules) (λ c κs. search rules) (λ c κs. search rules) (λ c κs. search rules) (λ c κs. search rules)
    returns returns_2 returns_3 returns_4 returns_5 returns_6 returns_7 returns_8 returns_9 returns_10 returns_11
    returns_12)
