-- The numbers of kinds. Assumes nothing.
use mathlib.Core.Path.{◌≡◌, refl}
use denote.Enum.Declared.{tag_of}
use Rattle.definition.specs.Numbers.{kind_number}
use Rattle.definition.specs.contracts.kind.Kind.{the_type}
use Rattle.definition.specs.declared.kind.Kind.{Kind}

-- a kind's number is its position
pub position : (k : Kind) → tag_of the_type k ≡ kind_number k
position Kind.End = refl
position Kind.Identifier = refl
position Kind.Integer = refl
position Kind.String = refl
position Kind.KwFn = refl
position Kind.KwVar = refl
position Kind.KwReturn = refl
position Kind.KwLoop = refl
position Kind.KwWhile = refl
position Kind.KwBreak = refl
position Kind.KwIf = refl
position Kind.KwElse = refl
position Kind.KwTrue = refl
position Kind.KwFalse = refl
position Kind.KwAs = refl
position Kind.KwType = refl
position Kind.KwStruct = refl
position Kind.KwSizeof = refl
position Kind.KwUse = refl
position Kind.KwExtern = refl
position Kind.KwDistinct = refl
position Kind.KwInternal = refl
position Kind.Plus = refl
position Kind.Minus = refl
position Kind.Star = refl
position Kind.ForwardSlash = refl
position Kind.Equals = refl
position Kind.DoubleEquals = refl
position Kind.Ampersand = refl
position Kind.DoubleAmpersand = refl
position Kind.Bar = refl
position Kind.Caret = refl
position Kind.Tilde = refl
position Kind.Bang = refl
position Kind.Dot = refl
position Kind.DotStar = refl
position Kind.LeftShift = refl
position Kind.RightShift = refl
position Kind.Hash = refl
position Kind.LBrace = refl
position Kind.RBrace = refl
position Kind.LParen = refl
position Kind.RParen = refl
position Kind.LBracket = refl
position Kind.RBracket = refl
position Kind.LAngle = refl
position Kind.LAngleEquals = refl
position Kind.RAngle = refl
position Kind.RAngleEquals = refl
position Kind.Colon = refl
position Kind.Semicolon = refl
position Kind.RArrow = refl
position Kind.LArrow = refl
position Kind.Comma = refl
position Kind.InlineAssemblyFragment = refl
