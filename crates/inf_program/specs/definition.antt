-- The definition of what a compilation gives, by the pieces of its source. Between two pieces the innermost file goes on with a directive or
-- a routine, with a bad piece and the tokens that are passed over behind it, with conditional directives, or with its end; behind that a
-- file is entered or left, or reading ends. A program is all of these, one behind the other (`IsProgram` of `Program`). Behind it the text of
-- each routine that the compiler supplies is read, as a program, too (`AreSupplied` of `Supplied`), and the outcome of a source is the ending
-- behind all of these (`IsWritten` of `Written`).
--
-- A piece is a text of the grammar: by the rows of the grammar its tokens and the actions between them are derived as a whole (`Derives` of
-- `Fronts`), and a bad token is one with which the tokens before it begin no such text (`IsBad`). No stack of a machine says so, and no turn.
-- Conditionals are sides, each of which stays or is left out, and a token is kept where all sides around it stay (`step_at` of `NextToken`).
-- Not a tree yet is what a piece does: its actions act in the order of the derivation, so a unit grows token by token, up to the action that
-- ends it (`taken_by`). That a piece which is a directive of one unit, or a routine, does what its tree does is a law (`inf_turn_laws`).
pub mod States
pub mod Steps
pub mod NextToken
pub mod Fronts
pub mod BadPieces
pub mod Program
pub mod Supplied
pub mod Written
